-- An outcome that fits its lists is put whole, and of another nothing. Assumes nothing.
use Rattle.basis.proofs.Prelude.{◌∙◌, ◌≡◌, sym, ℕ, List, [], Bool, T, false, leb→le, length, true, le-leb}
use lib.Ieee.Fits.{and_l, and_r}
use Rattle.model.specs.declared.Call.{Call}
use Rattle.outcomes.specs.{declared.Outcome.Outcome, Outcomes.answer_of}
use Rattle.replies.specs.{Replies.call_text, Sending.{Sends, fits_in, reply_text}, Fitting.Fits}

-- the bytes that are put are the answer's
pub replied : (call : Call) {o : Outcome} {ns ts : List ℕ} → Fits (answer_of o ns ts) → {out exit : List ℕ} {r : ℕ}
    → Sends (reply_text call o ns ts) out r exit → Sends (call_text call (answer_of o ns ts)) out r exit
unfolding reply_text fits_in
replied call {o} {ns} {ts} f s = let fits : fits_in o (length ns) (length ts) ≡ true = search le-leb in rw fits at s

-- ---- by the test b
module _ (call : Call) (o : Outcome) (ns ts : List ℕ) {b : Bool} (is : b ≡ fits_in o (length ns) (length ts)) where
  pub fitted : b ≡ true → Fits (answer_of o ns ts)
  unfolding fits_in
  fitted e = let all : T (fits_in o (length ns) (length ts)) = rw (sym is ∙ e) tt in search (and_l, and_r, leb→le)

  module _ {out exit : List ℕ} {r : ℕ} where
    pub put_whole : b ≡ true → Sends (call_text call (answer_of o ns ts)) out r exit → Sends (reply_text call o ns ts) out r exit
    unfolding reply_text
    put_whole e s = rw (sym is ∙ e) s

    pub put_nothing : b ≡ false → Sends [] out r exit → Sends (reply_text call o ns ts) out r exit
    unfolding reply_text
    put_nothing e s = rw (sym is ∙ e) s
