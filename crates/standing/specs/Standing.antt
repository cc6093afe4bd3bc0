-- The standing list with its journal, read as document 01's standing list and past, and what each call makes of them. Assumes nothing.
use Rattle.std.specs.Prelude.{ℕ, ◌≤◌, ◌≡◌, Bool, false, not, ◌&&◌, cond, List, [], eqb, length, take, drop}
use Rattle.refusal.specs.Table.{accepted}
use Rattle.spell.specs.declared.Spell.{Spell}
use Rattle.spell.specs.Listing.{Good}
use Rattle.model.specs.declared.Call.{Call}
use Rattle.model.specs.declared.Call.TheVariants.{Enter, Amend, Strike, TakeBack, Publish, Write, Ask}
use Rattle.model.specs.Edits.{insert, remove, replace, idle, enter_refusal, amend_refusal, strike_refusal, take_back_refusal, remember, front_or, rest_of}
use Rattle.journal.specs.declared.Undo.{Undo}
use Rattle.journal.specs.Journal.{newest_first}
unfoldable pub use Rattle.journal.specs.Past.{undo, past_of, Goods}
use Rattle.standing.specs.declared.Standing.{Standing}
use Rattle.standing.specs.declared.Edited.{Edited}
use Rattle.refusal.specs.Numbers.{number_in}
use Rattle.standing.specs.Places.{holding, fresh_standing, noted, entering, replacing}
use Rattle.register.specs.Text.{Register}
use Rattle.model.specs.Model.{begun}

-- ---- What a value stands for

-- the standing list: the spells that stand
abbrev pub list_of : Standing → List Spell
list_of st = take st.count st.spells

-- the entries of the journal, newest first
abbrev pub entries : Standing → List Undo
entries st = newest_first st.depth st.journal

-- the past
abbrev pub pasts : Standing → List (List Spell)
pasts st = past_of (list_of st) (entries st)

-- a standing list that the calls gave: it can stand, and so can each list of its past
pub record Wf (st : Standing) : Type 0 where
  pub places : length st.spells ≡ 1024
  pub rooms : length st.journal ≡ 64
  pub count_within : st.count ≤ 1024
  pub depth_within : st.depth ≤ 64
  pub good : Good (list_of st)
  pub goods : Goods (pasts st)

-- ---- What each call gives

-- the standing list after a call, and what the call is told: the refusal's number, or 0
pub record After : Type 0 where
  pub standing : Standing
  pub refusal : ℕ

abbrev pub after_of : Edited → After
after_of e = record { standing = e.standing; refusal = number_in e.outcome }

-- a fresh start: nothing stands, and there is no past; every place is blank
pub record Fresh (r : Standing) : Type 0 where
  pub wf : Wf r
  pub list : list_of r ≡ []
  pub past : pasts r ≡ []
  pub whole : r ≡ fresh_standing

-- an edit is made: it is not idle, and not refused
abbrev pub makes : Bool → ℕ → Bool
makes idle n = not idle && eqb n accepted

-- all places after an edit: where it is made, the standing list is l' and the entry e is noted; else every place is kept
abbrev pub after_edit : Standing → Bool → ℕ → List Spell → Undo → Standing
after_edit st idle n l' e = cond (makes idle n) (holding st l' (noted e (entries st))) st

-- an edit that is refused with the number n, or, at 0, makes the standing list l' and remembers the former one; refused or idle, it changes
-- nothing
pub record Edits (st : Standing) (r : After) (idle : Bool) (n : ℕ) (l' : List Spell) (e : Undo) : Type 0 where
  pub refusal : r.refusal ≡ n
  pub wf : Wf r.standing
  pub list : list_of r.standing ≡ cond (makes idle n) l' (list_of st)
  pub past : pasts r.standing ≡ cond (makes idle n) (remember (list_of st) (pasts st)) (pasts st)
  pub kept : makes idle n ≡ false → r.standing ≡ st
  pub whole : r.standing ≡ after_edit st idle n l' e

-- all places after a take back: the newest entry goes
abbrev pub after_take_back : Standing → Standing
after_take_back st = holding st (front_or (list_of st) (pasts st)) (drop 1 (entries st))

-- take back: the standing list becomes the front of the past, which loses it
pub record TakesBack (st : Standing) (r : After) : Type 0 where
  pub refusal : r.refusal ≡ take_back_refusal (pasts st)
  pub wf : Wf r.standing
  pub list : list_of r.standing ≡ front_or (list_of st) (pasts st)
  pub past : pasts r.standing ≡ rest_of (pasts st)
  pub kept : pasts st ≡ [] → r.standing ≡ st
  pub whole : r.standing ≡ after_take_back st

-- a call that is no edit
abbrev pub Keeps : Standing → After → Type 0
Keeps st r = r ≡ record { standing = st; refusal = accepted }

-- any call: an edit, a take back, or one that leaves the standing list as it was
unfoldable pub Does : Standing → Call → After → Type 0
Does st (Enter s) r = Edits st r false (enter_refusal (list_of st) s) (insert s (list_of st)) (entering s)
Does st (Amend s) r = Edits st r (idle (list_of st) s) (amend_refusal (list_of st) s) (replace s (list_of st)) (replacing s.number (list_of st))
Does st (Strike k) r = Edits st r false (strike_refusal (list_of st) k) (remove k (list_of st)) (replacing k (list_of st))
Does st TakeBack r = TakesBack st r
Does st (Publish rule) r = Keeps st r
Does st Write r = Keeps st r
Does st (Ask w) r = Keeps st r

-- ---- The register text

-- all places after a reading: the list with which the account begins, over a fresh start
abbrev pub after_reading : Register → Standing
after_reading g = holding fresh_standing (begun g).standing []
