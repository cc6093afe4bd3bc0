-- `host_wire::call_word` meets its contract: a line for each call. Assumes nothing.
use Rattle.host_wire.proofs.call_word.Goals as goal

pub returns-in-Ask : goal.returns-in-Ask
returns-in-Ask c = rw c.in-Ask.is c.question_word.ensures
