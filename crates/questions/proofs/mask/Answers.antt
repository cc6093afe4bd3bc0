-- `questions::mask` meets its contract: the days question is asked for the ticked days. Assumes nothing.
use Rattle.questions.proofs.{Names.{◌∙◌, ◌≡◌, ap, refl, sym, ℕ, List, take, length, length-take-le, Ask, Days, Mask, ticking, mask_off, mask_as_days, All, Off, ticks, Answer, all_gives, off_gives, Outcome, told_of, ticking_of, asking, ticking_told, Asked, Refusal, OffCalendar, number_of}}
use Rattle.questions.proofs.mask.Goals as goal

-- ---- The ticked days of a sheet, which were put into a list

module _ {ix : List ℕ} {b k : ℕ} {ns held put : List ℕ} where
  -- one is off the calendar
  mask_off_asked : {o : Outcome} {r : Refusal} → Answer b k Off held put → r ≡ OffCalendar → o ≡ told_of (number_of r) → (days : List ℕ) → Asked ix (Mask b k) days ns o ns
  mask_off_asked a off is days = record { answer = λ m text s. rw (is, off, mask_off m (asking (Ask (Mask b k)) days ns text) b k (off_gives a refl)) }

  -- what the days question gave for them, with their number
  mask_asked : {n : ℕ} {o r : Outcome} {ns' : List ℕ} → Answer b k (All n) held put → Asked ix Days (take n put) ns o ns' → r ≡ ticking_of o n → (days : List ℕ) → Asked ix (Mask b k) days ns r ns'
  mask_asked {o = o} {ns' = ns'} a d is days = let g = all_gives a refl in record {
    answer = λ m text s. rw (is, g.number)
        (ticking_told o (length (ticks b k)) ns' text ∙ ap (ticking (length (ticks b k))) (d.answer m text s)
        ∙ sym (mask_as_days m (asking (Ask (Mask b k)) days ns text) b k _ g.first));
  }

-- as many places of the list are lent as days are ticked
pub slice_bounds-ticked-end : goal.slice_bounds-ticked-end
slice_bounds-ticked-end c = (all_gives c.in-Ok.ensures.answer refl).inside

pub slice_bounds-days-end : goal.slice_bounds-days-end
slice_bounds-days-end c = sym (length-take-le c.in-Ok.n c.ticked.new.days (all_gives c.in-Ok.ensures.answer refl).inside)

pub returns-in-Ok : goal.returns-in-Ok
returns-in-Ok c = mask_asked c.in-Ok.ensures.answer c.days.ensures c.ticking.ensures

pub returns-in-Err : goal.returns-in-Err
returns-in-Err c = mask_off_asked c.in-Err.ensures.answer c.in-Err.ensures.refusal c.told.ensures
