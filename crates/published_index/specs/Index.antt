-- The index of a published list, what publish makes of it, and what an index shows. Assumes nothing.
use Rattle.std.specs.Prelude.{ℕ, ◌≡◌, cond, List, map}
use Rattle.refusal.specs.Table.{accepted, no_such_rule}
use Rattle.rules.specs.Rules.{is_rule}
use Rattle.spell.specs.declared.Spell.{Spell}
use Rattle.spell.specs.Order.{listed_before}
use Rattle.spell.specs.Listing.{Sound, OrderlyBy}
use Rattle.stabbing.specs.Index.{block_of}
use Rattle.model.specs.Questions.{firsts_of, lasts_of}
use Rattle.model.specs.Publishing.{published_of}

-- the index of a published list
abbrev pub index_of : List Spell → List ℕ
index_of p = block_of (map (λ (s : Spell). s.number) p) (firsts_of p) (lasts_of p)

-- publish by a rule is refused where there is no such rule
abbrev pub rule_refusal : ℕ → ℕ
rule_refusal rule = cond (is_rule rule) accepted no_such_rule

-- the index ix after publish of the standing list l by a rule: every word of it is given, or it stays
abbrev pub index_by : ℕ → List Spell → List ℕ → List ℕ
index_by rule l ix = cond (is_rule rule) (index_of (published_of rule l)) ix

-- the index ix shows the published list p
pub record Shows (ix : List ℕ) (p : List Spell) : Type 0 where
  pub good : OrderlyBy listed_before Sound p
  pub index : ix ≡ index_of p

-- an index that the calls gave shows some published list
pub record Published (ix : List ℕ) : Type 0 where
  pub list : List Spell
  pub shows : Shows ix list
