-- The step of `Shared` is the contract of `phayaklit_request` itself, as the prover reads it; and what it asks. Assumes nothing.
use denote.MutBor.{MutBor}
use denote.Ref.{Bor}
use Rattle.host_wire.proofs.phayaklit_request.Reads as request-reads
use Rattle.host_wire.proofs.Names.{Carried, Given, Is, Lfts, List, Requested, blocks, refl, unpacked, ℕ}

pub request_is : (κs : Lfts 8) (room allowed : ℕ) (r : Carried) (line payload : Bor (List ℕ)) (words words' index index' days days' numbers numbers' text text' out out' : MutBor (List ℕ))
    → Is (request-reads.Pre κs) (request-reads.Post κs) (words, (index, (room, (allowed, (line, (payload, (days, (numbers, (text, (out, tt)))))))))) r
    (words', (index', (room, (allowed, (line, (payload, (days', (numbers', (text', (out', tt))))))))))
    (Given (unpacked words.now) (blocks index.now))
    (Requested words.now (blocks index.now) room allowed line.now payload.now days.now numbers.now text.now out.now r
    words'.now (blocks index'.now) days'.now numbers'.now text'.now out'.now)
request_is κs room allowed r line payload words words' index index' days days' numbers numbers' text text' out out' = (refl, refl)
