-- `register_write::put_urgency` meets its contract. Assumes nothing.
use Rattle.register_write.proofs.Backward.{grade_put, reading_put}
use Rattle.register_write.proofs.put_urgency.Goals as goal

pub returns-in-Grade : goal.returns-in-Grade
returns-in-Grade c = search grade_put

pub returns-in-Reading : goal.returns-in-Reading
returns-in-Reading c = search reading_put
