-- `register_sift::sift` meets its contract. Assumes nothing.
use Rattle.register_sift.proofs.Sifting.{within, beyond}
use Rattle.register_sift.proofs.sift.Goals as goal

pub returns-then-text-gt-TEXT : goal.returns-then-text-gt-TEXT
returns-then-text-gt-TEXT c = search beyond

pub returns : goal.returns
returns c = search within
