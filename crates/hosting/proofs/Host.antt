-- A call on the service of a block of words is a call on the block. Assumes nothing.
use Rattle.basis.proofs.Prelude.{◌∙◌, ◌≡◌, ap, sym, ℕ, List}
use Rattle.model.specs.declared.Call.{Call}
use Rattle.service.{specs.{declared.Service.Service, Packed.{packed, unpacked, Packs}, Service.Changes}, proofs.Editing.changes}
use Rattle.standing_words.specs.Edits.{EditedIn}
use Rattle.outcomes.specs.{declared.Outcome.Outcome, Outcomes.told_of}
use Rattle.hosting.specs.{declared.Reply.Reply, Host.{Laid, outcome_of, stepped_of}}

-- what is packed is laid out, word for word
pub laid : (words : List ℕ) (sv : Service) → Packs sv words → Laid words
laid words sv p = p.words ∙ ap packed (sym p.back)

-- an edit made on the words, with what is told of it
pub edited : (words words' : List ℕ) (c : Call) {n : ℕ} {o : Outcome} {x : Reply} → EditedIn c words n words' → o ≡ told_of n → outcome_of x ≡ o
    → Changes (unpacked words) c (stepped_of words' x)
edited words words' c e is told = changes (unpacked words) c _ e.does (told ∙ is)
