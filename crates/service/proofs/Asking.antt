-- A call's answer beside what its edit makes of the service: a question leaves service and blocks as they were. Assumes nothing.
use Rattle.basis.proofs.Prelude.{◌≡◌, refl, true, List, ℕ}
use Rattle.service.proofs.Names.{accepted, Call, Write, Ask, Question, reads, reads_keep, Outcome, Service, Stepped, told_of, asking, Blocks, Given, keeping, Met, Changed, Changes, Represents, Request, State, Wrote, answer_of, step}
use Rattle.service.specs.Clauses.{Beside}
use Rattle.questions.specs.Asked.{Asked}

-- a call that reads leaves service and blocks as they were
pub reads_met : {sv : Service} {bs : Blocks} {q : Request} {o : Outcome} {ns text : List ℕ} → reads q.call ≡ true → Given sv bs
    → ((m : State) → Represents sv bs m → answer_of o ns text ≡ (step m q).answer) → Met sv bs q (keeping sv o) bs ns text
reads_met {q = q} only g f = record { given = g; answer = f; after = λ m h. rw (reads_keep m q only) h }

-- A QUESTION is answered beside whatever service, and whatever list for a text, as the account does
pub asked_met : {bs : Blocks} {w : Question} {days ns : List ℕ} {o : Outcome} {ns' : List ℕ} → Asked bs.index w days ns o ns'
    → (sv : Service) (text : List ℕ) → Given sv bs → Met sv bs (asking (Ask w) days ns text) (keeping sv o) bs ns' text
asked_met a sv text g = reads_met refl g (λ m h. a.answer m text h.shows)

module _ {sv : Service} {bs : Blocks} {days ns text : List ℕ} {c c' : Call} {o : Outcome} (e : c ≡ c') where
  -- an edit answers what is told of it
  pub edits_beside : ((x : Stepped) → Changes sv c' x → Changed sv c' x) → Given sv bs → Beside sv bs c o days ns text o bs ns text
  edits_beside f g = rw e (record { met = λ x d is. rw is ((f x d).met bs days ns text g) })

  -- another call leaves the service as it was
  pub keeps_beside : {r : Outcome} {bs' : Blocks} {ns' text' : List ℕ} → ((x : Stepped) → Changes sv c' x → x ≡ keeping sv (told_of accepted))
      → Met sv bs (asking c' days ns text) (keeping sv r) bs' ns' text' → Beside sv bs c o days ns text r bs' ns' text'
  keeps_beside f m = rw e (record { met = λ x d is. rw (f x d) m })

pub wrote_met : {sv : Service} {bs : Blocks} {days ns text text' : List ℕ} {o : Outcome} → Wrote sv text o text' → Given sv bs → Met sv bs (asking Write days ns text) (keeping sv o) bs ns text'
wrote_met {bs = bs} {days} {ns} w g = w.met bs days ns g

-- the service that the edit of a call made, with what the call answered beside it
pub beside_met : {sv : Service} {bs : Blocks} {c : Call} {days ns text : List ℕ} {r : Outcome} {bs' : Blocks} {ns' text' : List ℕ} (x : Stepped)
    → Changes sv c x → Beside sv bs c x.outcome days ns text r bs' ns' text' → Met sv bs (asking c days ns text) (record { service = x.service; outcome = r }) bs' ns' text'
beside_met x d b = b.met x d refl
