-- `request_lines::parse` meets its contract: each layout with what its fields ask. Assumes nothing.
use Rattle.basis.proofs.Prelude.{refl}
use Rattle.requests.specs.Requests.{asked_by, days_by}
use Rattle.request_lines.proofs.Parsed.{parses_long, parses_by, parses_alone, parses_days}
use Rattle.request_lines.proofs.parse.Goals as goal

pub returns-then-line-gt-LONGEST_LINE : goal.returns-then-line-gt-LONGEST_LINE
returns-then-line-gt-LONGEST_LINE c = parses_long _ _ c.if-line-gt-LONGEST_LINE.true

pub returns-in-Alone : goal.returns-in-Alone
returns-in-Alone c = parses_alone _ _ c.if-line-gt-LONGEST_LINE.false c.head_of-layout.ensures c.in-Alone.is c.alone_call.ensures c.if_ended.ensures

pub returns-in-Spell : goal.returns-in-Spell
unfolding days_by
returns-in-Spell c = parses_by _ _ c.if-line-gt-LONGEST_LINE.false c.head_of-layout.ensures c.in-Spell.is (λ room s. refl) c.spell_asked.ensures

pub returns-in-Number : goal.returns-in-Number
unfolding days_by
returns-in-Number c = parses_by _ _ c.if-line-gt-LONGEST_LINE.false c.head_of-layout.ensures c.in-Number.is (λ room s. refl) c.number_asked.ensures

pub returns-in-Pair : goal.returns-in-Pair
unfolding days_by
returns-in-Pair c = parses_by _ _ c.if-line-gt-LONGEST_LINE.false c.head_of-layout.ensures c.in-Pair.is (λ room s. refl) c.pair_asked.ensures

pub returns-in-Mask : goal.returns-in-Mask
unfolding days_by
returns-in-Mask c = parses_by _ _ c.if-line-gt-LONGEST_LINE.false c.head_of-layout.ensures c.in-Mask.is (λ room s. refl) c.mask_asked.ensures

pub returns-in-Length : goal.returns-in-Length
unfolding days_by
returns-in-Length c = parses_by _ _ c.if-line-gt-LONGEST_LINE.false c.head_of-layout.ensures c.in-Length.is (λ room s. refl) c.length_asked.ensures

pub returns-in-Days : goal.returns-in-Days
returns-in-Days c = parses_days _ _ c.if-line-gt-LONGEST_LINE.false c.head_of-layout.ensures c.in-Days.is c.read_days.ensures

pub returns-in-Unknown : goal.returns-in-Unknown
unfolding asked_by days_by
returns-in-Unknown c = parses_by _ _ c.if-line-gt-LONGEST_LINE.false c.head_of-layout.ensures c.in-Unknown.is (λ room s. refl) (λ room. refl)
