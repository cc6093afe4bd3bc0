-- `request_lines::text_length` meets its contract: a line that is too long, one with another word, and a `read`. Assumes nothing.
use Rattle.requests.proofs.Announced.{long_none, other_none, read_announces}
use Rattle.request_lines.proofs.text_length.Goals as goal

pub returns-then-line-gt-LONGEST_LINE : goal.returns-then-line-gt-LONGEST_LINE
returns-then-line-gt-LONGEST_LINE c = search long_none

pub returns-then-not-begins : goal.returns-then-not-begins
returns-then-not-begins c = search other_none

pub returns : goal.returns
returns c = search read_announces
