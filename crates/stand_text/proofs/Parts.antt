-- The lines of days put one after the other into a part, and the parts one after another into the whole text. Assumes nothing.
use Rattle.basis.proofs.Prelude.{◌∙◌, ◌≡◌, ap, refl, subst, ◌+◌, ◌-◌, ◌<◌, ◌≤◌, suc, zero, ℕ, List, [], ◌++◌, append_assoc, append-nil, Bool, false, true, ◌⊎◌, ⊎_elim, leb, drop, length, add-one, add-zero, zero-add, arith, by_cases, le-leb, leb-false, leb-true, clash}
use Rattle.spell.specs.declared.Spell.{Spell}
use Rattle.register.specs.Text.{read_text}
use Rattle.model.specs.{declared.Call.TheVariants.Publish, Effects.settle, Publishing.published_of, Model.{begun, refusal_in, effect_of, step}}
use Rattle.outcomes.specs.Outcomes.{asking}
use Rattle.published_index.specs.Index.{Shows, Published}
use Rattle.replies.proofs.Sending.{sends_bytes, sends_put}
use Rattle.gathering.{specs.Gathering.{Appends, Appended}, proofs.Gathering.{appended_room, appends_on}}
use Rattle.stand_text.specs.{declared.Part.Part, Report.{day_line, lines_of, text_of, taken, part_days, part_of, next_of, Come, none, more, Reached, Printed, PrintedOn, PrintedOf, DayEnds, PartStands}}

-- ---- Lines

-- the lines of j days and of the k days after them
lines_join : (j k d : ℕ) (p : List Spell) → lines_of (j + k) d p ≡ lines_of j d p ++ lines_of k (d + j) p
unfolding lines_of
lines_join zero k d p = rw (zero-add k, add-zero d)
lines_join (suc j) k d p =
    let days : suc j + k ≡ suc (j + k) = omega arith in
    let day : d + suc j ≡ suc d + j = omega arith in
    rw (days, day, lines_join j k (suc d) p, append_assoc)

-- ---- The days that a part takes

-- no more than are left, none where there is no room for a line, and one or more where there is room and a day
taken_so : (k d n : ℕ) (p : List Spell) → (taken k d n p ≤ k) × (57344 < n → taken k d n p ≡ 0) × (0 < k → n ≤ 57344 → 0 < taken k d n p)
unfolding taken
taken_so zero d n p = omega arith
taken_so (suc k) d n p =
    let h = (taken_so k (suc d) (n + length (day_line d p)) p).0 in
    by_cases (λ (m : ℕ). (m ≤ suc k) × (57344 < n → m ≡ 0) × (0 < suc k → n ≤ 57344 → 0 < m)) (leb n 57344) (λ e. omega (arith, leb-true)) (λ e. omega (arith, leb-false))

-- ---- A part

-- a text stands in the first n places, and the part has after it the lines of the days that are taken from day d on, over whatever published
-- list the index shows
pub record Filled (ix : List ℕ) (from : ℕ) (entry : List ℕ) (n d : ℕ) (out : List ℕ) : Type 0 where
  pub inside : n ≤ 65536
  pub text : List ℕ
  pub put : Appends text entry 0 n out
  pub part : (p : List Spell) → Shows ix p → part_of from p ≡ text ++ lines_of (taken (4001 - d) d n p) d p
  pub next : (p : List Spell) → Shows ix p → next_of from p ≡ d + taken (4001 - d) d n p

pub filled_none : (ix : List ℕ) (from : ℕ) (entry : List ℕ) → Filled ix from entry 0 from entry
filled_none ix from entry =
    record { inside = omega arith; text = []; put = record { place = omega arith; places = refl }; part = λ p s. refl; next = λ p s. refl }

-- a buffer that a day's line ends keeps its length
pub line_sized : {ix : List ℕ} {d : ℕ} {buf₀ buf : List ℕ} {r : ℕ} → length buf₀ ≡ 8192 → DayEnds ix d buf₀ r buf → Published ix
    → length buf ≡ 8192
line_sized size e g = (sends_put (e.line g.list g.shows)).sized ∙ size

module _ {ix : List ℕ} {from : ℕ} {entry : List ℕ} {n d : ℕ} {out : List ℕ} (g : Published ix) (f : Filled ix from entry n d out) where
  -- and the line is appended: a list of 65,536 places has room for it
  pub filled_one : {buf₀ buf : List ℕ} {r n' : ℕ} {out' : List ℕ} → length buf₀ ≡ 8192 → length out ≡ 65536 → d ≤ 4000 → n ≤ 57344
      → DayEnds ix d buf₀ r buf → Appended (drop r buf) out n n' out' → Filled ix from entry n' (d + 1) out'
  unfolding taken lines_of
  filled_one {buf₀} {buf} {r} {n'} {out'} size places last room e put =
      let is : (p : List Spell) → Shows ix p → drop r buf ≡ day_line d p = λ p s. sends_bytes (e.line p s) in
      let long : length (drop r buf) ≤ 8192 = omega (arith, ap length (is g.list g.shows), (e.line g.list g.shows).fits) in
      let a = appended_room (drop r buf) out n n' out' put (omega arith) in
      let left : 4001 - d ≡ suc (4001 - (d + 1)) = omega arith in
      let on : (p : List Spell) → Shows ix p → taken (4001 - d) d n p ≡ suc (taken (4001 - (d + 1)) (d + 1) n' p)
      = λ p s. rw (left, le-leb n 57344 room, a.place, is p s, add-one d) in
      record {
        inside = omega (arith, a.place);
        text = f.text ++ drop r buf;
        put = appends_on (omega arith) f.put (omega arith) a;
        part = λ p s. f.part p s ∙ rw (on p s, is p s, append_assoc, add-one d);
        next = λ p s. omega (arith, f.next p s, on p s);
      }

  -- no room for a line more, or no day left
  pub filled_all : (4000 < d) ⊎ (57344 < n) → PartStands ix from entry (record { bytes = n; next = d }) out
  unfolding lines_of
  filled_all over =
      let none : (p : List Spell) → taken (4001 - d) d n p ≡ 0
      = λ p. let t = taken_so (4001 - d) d n p in ⊎_elim (λ h. omega arith) t.1 over in
      let all : (p : List Spell) → Shows ix p → part_of from p ≡ f.text = λ p s. f.part p s ∙ rw (none p, append-nil) in
      let next : (p : List Spell) → Shows ix p → d ≡ next_of from p = λ p s. omega (arith, f.next p s, none p) in
      let so = taken_so (4001 - from) from 0 g.list in
      let to = next g.list g.shows in
      record {
        inside = f.inside;
        onward = λ h. omega (arith, so.2 (omega arith) (omega arith));
        within = λ h. omega arith;
        part = λ p s. record { bytes = rw (all p s) (omega (arith, f.put.place)); next = next p s; places = rw (all p s) f.put.places };
      }

-- ---- The whole text

-- the parts have come to a day of the calendar or the one after it, and the lines of the days from there on make their text whole
come_to : {p : List Spell} {d : ℕ} {text : List ℕ} → Come p d text → (d ≤ 4001) × (text ++ lines_of (4001 - d) d p ≡ text_of p)
come_to none = (omega arith, refl)
come_to {p} (more {d} {text} c) =
    let so = come_to c in
    let few = (taken_so (4001 - d) d 0 p).0 in
    let days : 4001 - d ≡ part_days d p + (4001 - next_of d p) = omega arith in
    (omega arith, rw (append_assoc, ← lines_join (part_days d p) (4001 - next_of d p) d p, ← days) so.1)

-- parts, one after another from day 1 until the day to go on with is 4,001, make the text of all days
pub come_whole : {p : List Spell} {text : List ℕ} → Come p 4001 text → text ≡ text_of p
unfolding lines_of
come_whole c = rw append-nil at (come_to c).1

-- ---- What is printed

-- over whatever published list the index shows, parts have come to a day
abbrev pub Printing : List ℕ → ℕ → Type 0
Printing ix d = (p : List Spell) → Shows ix p → Reached p d

module _ {ix : List ℕ} {d : ℕ} (f : Printing ix d) where
  pub printing_one : {entry exit : List ℕ} {r : Part} → PartStands ix d entry r exit → Printing ix r.next
  printing_one s p shows = let so = f p shows in record { text = so.text ++ part_of d p; come = rw (s.part p shows).next (more so.come) }

  pub printing_all : 4000 < d → PrintedOn ix d true
  printing_all h p shows = record { reached = f p shows; all = λ _. omega (arith, (come_to (f p shows).come).0) }

  pub printing_whole : 4000 < d → PrintedOn ix 4001 true
  printing_whole h p shows = let s = printing_all h p shows in record { reached = subst (λ (n : ℕ). Reached p n) (s.all refl) s.reached; all = λ _. refl }

  pub printing_some : PrintedOn ix d false
  printing_some p shows = record { reached = f p shows; all = λ e. absurd (clash e refl) }

-- where all parts are printed, they are the text of all days
pub printed_whole : {p : List Spell} {next : ℕ} (s : Printed p next true) → s.reached.text ≡ text_of p
printed_whole s = come_whole (rw (s.all refl) at s.reached.come)

-- what the account that reads a register publishes
abbrev published : List ℕ → List Spell
published text = (step (begun (read_text text)) (asking (Publish 1) [] [] [])).state.published

-- what is printed of the index that shows its list is printed of the register's spells
pub printed_of : (text : List ℕ) {ix : List ℕ} {next : ℕ} {whole : Bool} → PrintedOn ix next whole → Shows ix (published text)
    → PrintedOf text next whole
unfolding begun effect_of settle
printed_of text s shows l e =
    let same : published text ≡ published_of 1 l = rw (published, e) in
    rw same at (s (published text) shows)

-- a refused register has no spells to print
pub refused_none : (text : List ℕ) {next n : ℕ} {whole : Bool} → n ≡ refusal_in (read_text text) → (n ≡ 0 → ⊥) → PrintedOf text next whole
refused_none text is some l e = absurd (some (is ∙ ap refusal_in e))
