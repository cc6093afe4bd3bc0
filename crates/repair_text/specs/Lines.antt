-- The lines that the program `repair` says on standard error (its protocol's page), and where its buffer holds them. Assumes nothing.
use Rattle.std.specs.Prelude.{ℕ, ◌≤◌, ◌≡◌, List, [], ◌∷◌, ◌++◌, length, drop}
use Rattle.refusal.specs.Table.{refused_word}
use Rattle.fields.specs.Fields.{wide_text}
use Rattle.register.specs.Text.{tab, lf}
use Rattle.repair_text.specs.declared.Said.{Said}
use Rattle.repair_text.specs.declared.Said.TheVariants.{Dropped, Refused, Repaired}

-- ---- The words

-- `dropped` TAB
abbrev pub dropped_word : List ℕ
dropped_word = 100 ∷ 114 ∷ 111 ∷ 112 ∷ 112 ∷ 101 ∷ 100 ∷ 9 ∷ []

-- `repaired` TAB
abbrev pub repaired_word : List ℕ
repaired_word = 114 ∷ 101 ∷ 112 ∷ 97 ∷ 105 ∷ 114 ∷ 101 ∷ 100 ∷ 9 ∷ []

-- ---- The lines

-- a word and two numbers, tab-parted and ended by LF
abbrev pub word_and_two : List ℕ → ℕ → ℕ → List ℕ
word_and_two word a b = word ++ wide_text a tab (wide_text b lf [])

-- `dropped` line number
abbrev pub dropped_line : ℕ → ℕ → List ℕ
dropped_line line number = word_and_two dropped_word line number

-- `refused` number line
abbrev pub refused_line : ℕ → ℕ → List ℕ
refused_line number line = word_and_two refused_word number line

-- `repaired` length dropped displaced
abbrev pub repaired_line : ℕ → ℕ → ℕ → List ℕ
repaired_line length dropped displaced = repaired_word ++ wide_text length tab (wide_text dropped tab (wide_text displaced lf []))

-- the line of what is said
abbrev pub said_line : Said → List ℕ
said_line (Dropped line number) = dropped_line line number
said_line (Refused number line) = refused_line number line
said_line (Repaired length dropped displaced) = repaired_line length dropped displaced

-- ---- The buffer

-- a line in the first places, r of them, and the places after it as they were
pub record Says (line entry : List ℕ) (r : ℕ) (exit : List ℕ) : Type 0 where
  pub fits : length line ≤ length entry
  pub place : r ≡ length line
  pub places : exit ≡ line ++ drop r entry
