-- The days of a line, read one after another into their places. Assumes nothing.
use Rattle.basis.proofs.Prelude.{◌∙◌, ◌≡◌, sym, ◌+◌, ◌-◌, ◌<◌, ◌≤◌, suc, ℕ, List, [], ◌++◌, ◌∷◌, append_assoc, append-nil, false, drop, length, length-append, length-set, set, take, drop-set-lt, length-take-le, take-suc-set, add-one, arith}
use Rattle.buffer.proofs.Over.{own_over}
use Rattle.std.specs.Prelude.{Option, Some, None}
use Rattle.fields.specs.Answers.{answer_in}
use Rattle.requests.{proofs.Names.{read_number, DayList, last_day, read_days}, specs.declared.Request.{TheVariants.{Malformed}, Request}}
use Rattle.request_lines.specs.Clauses.{after, ReadsDays}

-- the first k places are days already, and no more are read
unread : (days : List ℕ) (k : ℕ) → k ≤ length days → ReadsDays (after (take k days) (record { days = []; whole = false })) days Malformed days
unread days k h = let places = sym (own_over k days h) in rw append-nil (search)

-- ---- k days are read: what is read on from the place `at` of the line is what is read of all of it
pub record Onward (l : DayList) (entry line days : List ℕ) (at k : ℕ) : Type 0 where
  pub on : (r : Request) (exit : List ℕ) → ReadsDays (after (take k days) (read_days (length days - k) (drop at line))) days r exit → ReadsDays l entry r exit

pub onward_start : (line days : List ℕ) (start : ℕ) → Onward (read_days (length days) (drop start line)) days line days start 0
onward_start line days start = let all : length days - 0 ≡ length days = omega arith in record { on = λ r exit q. rw all at q }

module _ {l : DayList} {entry line days : List ℕ} {at k : ℕ} (x : Onward l entry line days at k) where
  module _ (h : k < length days) {f : Option (ℕ × ℕ)} (says : answer_in line f ≡ read_number 9 (drop at line)) where
    pub onward_step : {d next : ℕ} → f ≡ Some (d, next) → Onward l entry line (set days k d) next (k + 1)
    unfolding read_days
    onward_step {d} {next} e =
        let new = set days k d in
        let rest = read_days (length new - (k + 1)) (drop next line) in
        let left : length days - k ≡ suc (length new - (k + 1)) = omega (arith, length-set days k d) in
        let one : take (k + 1) new ≡ take k days ++ (d ∷ []) = rw (add-one, take-suc-set) in
        let same : after (take k days) (read_days (length days - k) (drop at line)) ≡ after (take (k + 1) new) rest = rw (left, ← says, e, one, append_assoc) in
        let long = length-append (take (k + 1) new) rest.days in
        let past = drop-set-lt (length (take (k + 1) new ++ rest.days)) days k d (omega (arith, long, length-take-le (k + 1) new (omega (arith, length-set days k d)))) in
        record { on = λ r exit q. x.on r exit (rw same (record { request = q.request; places = q.places ∙ rw past; sized = q.sized ∙ length-set days k d })) }

    pub onward_last : f ≡ None → {r : Request} {exit : List ℕ} → ReadsDays (after (take k days) (last_day (read_number 10 (drop at line)))) days r exit → ReadsDays l entry r exit
    unfolding read_days
    onward_last e {r} {exit} q =
        let left : length days - k ≡ suc (length days - (k + 1)) = omega arith in
        x.on r exit (rw (left, ← says, e) q)

  pub onward_full : length days ≡ k → ReadsDays l entry Malformed days
  unfolding read_days
  onward_full e = let none : length days - k ≡ 0 = omega arith in x.on Malformed days (rw none (unread days k (omega arith)))
