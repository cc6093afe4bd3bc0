-- The bytes of an outcome, by the shape of its answer. Assumes nothing.
use Rattle.basis.proofs.Prelude.{◌∙◌, ◌≡◌, sym, ◌≤◌, ℕ, List, length, take, length-take-le, arith, eq-eqb, ne_eqb}
use Rattle.model.specs.declared.Call.{Call}
use Rattle.outcomes.specs.{declared.Outcome.Outcome, Outcomes.answer_of}
use Rattle.replies.specs.{declared.Shape.Shape, Replies.{refused_text, shape_of, shape_text, call_text}, Sending.Sends}

-- no more of a list than is taken
pub few : (l : List ℕ) (n : ℕ) {k m : ℕ} → n ≤ length l → n ≤ k → k ≤ m → length (take n l) ≤ m
few l n h k m = omega (arith, length-take-le n l h)

module _ (call : Call) (o : Outcome) (ns ts : List ℕ) {out exit : List ℕ} {r : ℕ} where
  pub sends_refused : (o.refusal ≡ 0 → ⊥) → Sends (refused_text o.refusal) out r exit → Sends (call_text call (answer_of o ns ts)) out r exit
  unfolding call_text
  sends_refused h s = rw (ne_eqb o.refusal 0 h) s

  pub sends_shape : o.refusal ≡ 0 → {w : Shape} → w ≡ shape_of call → {v : Shape} → w ≡ v → Sends (shape_text v (answer_of o ns ts)) out r exit → Sends (call_text call (answer_of o ns ts)) out r exit
  unfolding call_text
  sends_shape h is e s = rw (eq-eqb o.refusal 0 h, sym is ∙ e) s
