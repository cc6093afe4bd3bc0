-- The index built of no rows, and that of a standing list's columns. Assumes nothing.
pub use Rattle.basis.proofs.Prelude.{rules, ◌∙◌, ◌≡◌, refl, ℕ, List, [], map, Bool, true, length, length-map, take, take_all, arith, le-leb}
use Rattle.spell.specs.{declared.Spell.Spell, Listing.Sound}
use Rattle.stabbing.specs.Index.{rows_after}
use Rattle.stabbing_index.specs.Build.{publishable, Builds}
use Rattle.row_order.specs.Rows.{arranged_column}
use Rattle.publishing.specs.Lays.{Lays}
use Rattle.rules.{specs.Rules.cut, proofs.Rules.cut_sound}
use Rattle.model.{specs.Publishing.published_of, proofs.Publishing.{each_cut, distinct_cut, published_length, published_orderly}}
use Rattle.spell_places.specs.List.{column_of, LaidOut}
pub use Rattle.standing.specs.{declared.Standing.Standing, Standing.{Wf, list_of}}
use Rattle.published_index.{specs.Index.index_of, proofs.Shown.{rows_ok_lem, column_is}}

-- the index built of no rows
pub no_rows : {x entry exit : List ℕ} {r : Bool} → Builds x x x 0 entry r exit → exit ≡ index_of []
unfolding rows_after
no_rows b = b.block

module _ {st : Standing} (w : Wf st) (rule : ℕ) {n : ℕ} {ns cs fs ls ns' cs' fs' ls' : List ℕ} (laid : LaidOut (map (cut rule) (list_of st)) n ns cs fs ls ns' cs' fs' ls')
    {ix ix' : List ℕ} {r : Bool} (b : Lays ns' cs' fs' ls' n ix r ix') where
  -- the spells with the rule's days
  abbrev l : List Spell
  l = map (cut rule) (list_of st)

  -- a column of the rows, in the order, is one of the published list
  column : (f : Spell → ℕ) (before : List ℕ) {after : List ℕ} → after ≡ column_of f l before → take n (arranged_column ns' cs' fs' ls' n after) ≡ map f (published_of rule (list_of st))
  unfolding published_of
  column f before e =
      let is = column_is l (each_cut rule cut_sound (list_of st) w.good.each) (distinct_cut rule (list_of st) ∙ w.good.unique) laid f before e in
      rw (laid.count, is) (take_all (length l) (map f (published_of rule (list_of st))) (omega (arith, length-map (published_of rule (list_of st)) f, published_length rule (list_of st), length-map (list_of st) (cut rule))))

  right : publishable (arranged_column ns' cs' fs' ls' n fs') (arranged_column ns' cs' fs' ls' n ls') n ≡ true
  right = rw (column _ _ laid.first, column _ _ laid.last, le-leb n 1024 (omega (arith, laid.count, length-map (list_of st) (cut rule), w.good.few)))
      (rows_ok_lem (published_of rule (list_of st)) (published_orderly rule Sound cut_sound (list_of st) w.good))

  pub indexed : ix' ≡ index_of (published_of rule (list_of st))
  indexed = b.block ∙ rw (right, column _ _ laid.number, column _ _ laid.first, column _ _ laid.last)
