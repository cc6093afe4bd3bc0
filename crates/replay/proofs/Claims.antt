-- Every list of calls has words, so that the contract of `run` speaks of every list. Assumes nothing.
use Rattle.replay.proofs.Names.{Bool, Coding, Holds, List, Played, Replayed, Request, ◌*◌, ◌≤◌, beginning, lent_days, lent_numbers, lent_text, length, result_width, run, ℕ}

-- THE CLAIM is one about every list: run on its coding, its answers are those of the account's own run of it
pub every_run : {qs : List Request} (k : Coding qs) (new : Bool) (register results results' numbers' text' : List ℕ) (r : Played)
    → result_width * length qs ≤ length results
    → Replayed new register k.codes (lent_days qs) results (lent_numbers qs) (lent_text qs) r results' numbers' text'
    → Holds (run (beginning new register) qs) results (lent_numbers qs) (lent_text qs) r.made results' numbers' text'
every_run k new register results results' numbers' text' r room h = rw (k.decodes results room) at h.calls
