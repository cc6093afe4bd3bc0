-- What publishing makes of the standing list (document 01, "The plain account"; document 02, W3). Assumes nothing.
use Rattle.std.specs.Prelude.{ℕ, List, map}
use Rattle.orders.specs.Orders.{sorted_by}
use Rattle.spell.specs.declared.Spell.{Spell}
use Rattle.spell.specs.Order.{listed_before}
use Rattle.rules.specs.Rules.{cut}

-- the published list: the spells with the days that the rule gives them, in the order of the answers
unfoldable pub published_of : ℕ → List Spell → List Spell
published_of rule l = sorted_by listed_before (map (cut rule) l)
