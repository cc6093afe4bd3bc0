-- `framing::phayaklit_advance` meets its contract: what `advance` answers, in one struct, or a refusal. Assumes nothing.
use Rattle.framing.proofs.Steps.{host_part, host_refused, host_whole}
use Rattle.framing.proofs.phayaklit_advance.Goals as goal

pub returns-then-not-is_ready : goal.returns-then-not-is_ready
returns-then-not-is_ready c = search host_refused

pub returns-in-Whole : goal.returns-in-Whole
returns-in-Whole c = search host_whole

pub returns-in-Part : goal.returns-in-Part
returns-in-Part c = search host_part
