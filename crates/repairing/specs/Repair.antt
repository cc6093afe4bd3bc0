-- A good register made from a damaged text, as document 02 gives it ("A register that came through a bad line"). Assumes nothing.
use Rattle.std.specs.Prelude.{ℕ, suc, ◌+◌, Bool, false, ◌||◌, cond, List, [], ◌∷◌, ◌++◌, ltb, eqb, length}
use Rattle.orders.specs.Orders.{sorted_by}
use Rattle.refusal.specs.Table.{accepted, duplicate_number, full, malformed}
use Rattle.spell.specs.declared.Spell.{Spell}
use Rattle.spell.specs.Entry.{refusal_of}
use Rattle.spell.specs.Order.{earlier_of}
use Rattle.spell.specs.Listing.{stands}
use Rattle.fields.specs.Fields.{Found, found, unreadable}
use Rattle.register.specs.Text.{lf, read_line, write_all}

-- ---- The lines of a text. Each is given as the text from its first byte on, which is how the register's reader takes a line.

-- a line that begins here, before those that are known, unless the text has ended
abbrev pub begun : List ℕ → List (List ℕ) → List (List ℕ)
begun [] later = later
begun (b ∷ t) later = (b ∷ t) ∷ later

-- the lines that begin after an LF
unfoldable pub later_lines : List ℕ → List (List ℕ)
later_lines [] = []
later_lines (b ∷ t) = cond (eqb b lf) (begun t (later_lines t)) (later_lines t)

-- all lines; a last one without LF is among them
unfoldable pub lines_of : List ℕ → List (List ℕ)
lines_of t = begun t (later_lines t)

-- what follows a text's first line
unfoldable pub after_line : List ℕ → List ℕ
after_line [] = []
after_line (b ∷ t) = cond (eqb b lf) t (after_line t)

-- ---- Going from the top

-- what a line meets first, after the spells that are kept: 12, 1 to 5, 6, 8. A last line without LF, and an empty one, can't be read
unfoldable pub verdict : List Spell → Found Spell → ℕ
verdict kept unreadable = malformed
verdict kept (found s rest) =
    cond (eqb (refusal_of s) accepted)
    (cond (stands kept s.number) duplicate_number (cond (ltb (length kept) 1024) accepted full))
    (refusal_of s)

-- the kept spells after a line: one more, where nothing refuses it
unfoldable pub keeping : List Spell → Found Spell → List Spell
keeping kept unreadable = kept
keeping kept (found s rest) = cond (eqb (verdict kept (found s rest)) accepted) (kept ++ (s ∷ [])) kept

-- the spells that are kept, as they stood, after those before
unfoldable pub kept_after : List Spell → List (List ℕ) → List Spell
kept_after kept [] = kept
kept_after kept (t ∷ lines) = kept_after (keeping kept (read_line t)) lines

-- what each line meets, after the spells before
unfoldable pub verdicts_after : List Spell → List (List ℕ) → List ℕ
verdicts_after kept [] = []
verdicts_after kept (t ∷ lines) = verdict kept (read_line t) ∷ verdicts_after (keeping kept (read_line t)) lines

-- ---- What is said of the dropped lines

-- a dropped line, counted from 1, and the number that it met
pub record Remark : Type 0 where
  pub line : ℕ
  pub number : ℕ

-- a remark for each line that met a number; the first line here is line n
unfoldable pub remarks_from : ℕ → List ℕ → List Remark
remarks_from n [] = []
remarks_from n (v ∷ met) =
    cond (eqb v accepted) (remarks_from (suc n) met) (record { line = n; number = v } ∷ remarks_from (suc n) met)

-- two places for each
unfoldable pub places_of : List Remark → List ℕ
places_of [] = []
places_of (r ∷ l) = r.line ∷ r.number ∷ places_of l

-- ---- How many kept lines now stand after a line that followed them

-- one of the spells is before s in the order
unfoldable pub some_before : Spell → List Spell → Bool
some_before s [] = false
some_before s (y ∷ l) = earlier_of y s || some_before s l

-- the spells that one of those that followed them is before
unfoldable pub displaced_in : List Spell → ℕ
displaced_in [] = 0
displaced_in (x ∷ l) = cond (some_before x l) 1 0 + displaced_in l

-- ---- A text

-- the kept spells, as they stood
abbrev pub kept_of : List ℕ → List Spell
kept_of t = kept_after [] (lines_of t)

-- put into the order
abbrev pub put_of : List ℕ → List Spell
put_of t = sorted_by earlier_of (kept_of t)

-- the repaired text
abbrev pub repaired_text : List ℕ → List ℕ
repaired_text t = write_all (put_of t)

-- the remarks
abbrev pub remarks_of : List ℕ → List Remark
remarks_of t = remarks_from 1 (verdicts_after [] (lines_of t))
