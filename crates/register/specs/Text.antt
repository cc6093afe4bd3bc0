-- The register text, as document 01 gives it ("Register text"): lines of six fields, written and read. Assumes nothing.
use Rattle.std.specs.Prelude.{ℕ, zero, suc, ◌+◌, Bool, true, ◌||◌, cond, List, [], ◌∷◌, ◌++◌, leb, eqb, length}
use Rattle.std.specs.Float.{binary32}
use Rattle.std.specs.Float.Ieee.{to_bits, of_bits}
use Rattle.refusal.specs.Table.{accepted, duplicate_number, full, malformed, out_of_order}
use Rattle.spell.specs.declared.Urgency.{Urgency}
use Rattle.spell.specs.declared.Urgency.TheVariants.{Grade, Reading}
use Rattle.spell.specs.declared.Spell.{Spell}
use Rattle.spell.specs.Entry.{refusal_of}
use Rattle.spell.specs.Order.{earlier_of}
use Rattle.spell.specs.Listing.{stands}
use Rattle.fields.specs.Fields.{number_text, bits_text, Found, found, unreadable, onward, passed, read_number, read_bits}

-- ---- The bytes of a line

abbrev pub tab : ℕ
tab = 9

abbrev pub lf : ℕ
lf = 10

abbrev pub letter_c : ℕ
letter_c = 67

abbrev pub letter_g : ℕ
letter_g = 71

-- ---- Writing. Each text is put in front of the one that follows.

-- the letter, its tab, the value and the LF: G and the grade, or C and the reading's bits
abbrev pub urgency_text : Urgency → List ℕ → List ℕ
urgency_text (Grade g) rest = letter_g ∷ tab ∷ number_text g lf rest
urgency_text (Reading x) rest = letter_c ∷ tab ∷ bits_text (to_bits binary32 x) lf rest

-- a line: spell number, candidate, first day, last day, letter, value
unfoldable pub line_text : Spell → List ℕ → List ℕ
line_text s rest =
    number_text s.number tab
    (number_text s.candidate tab
    (number_text s.first tab
    (number_text s.last tab
    (urgency_text s.urgency rest))))

unfoldable pub text_onto : List Spell → List ℕ → List ℕ
text_onto [] rest = rest
text_onto (s ∷ l) rest = line_text s (text_onto l rest)

-- the text of a list; the empty list's is empty
abbrev pub write_all : List Spell → List ℕ
write_all l = text_onto l []

-- ---- Reading a line, field by field

abbrev pub is_letter : ℕ → Bool
is_letter b = eqb b letter_g || eqb b letter_c

-- the letter G or C and the tab after it
unfoldable pub read_letter : List ℕ → Found ℕ
read_letter [] = unreadable
read_letter (b ∷ s) = cond (is_letter b) (passed tab b s) unreadable

-- the value after the letter, and the LF: a grade after G, a reading's bits after C
unfoldable pub read_value : ℕ → List ℕ → Found Urgency
read_value letter s =
    cond (eqb letter letter_g)
    (onward (read_number lf s) (λ g. found (Grade g)))
    (onward (read_bits lf s) (λ n. found (Reading (of_bits binary32 n))))

unfoldable pub read_urgency : List ℕ → Found Urgency
read_urgency s = onward (read_letter s) read_value

unfoldable pub read_line : List ℕ → Found Spell
read_line s0 =
    onward (read_number tab s0) (λ n s1.
    onward (read_number tab s1) (λ c s2.
    onward (read_number tab s2) (λ f s3.
    onward (read_number tab s3) (λ l s4.
    onward (read_urgency s4) (λ u s5.
    found (record { number = n; candidate = c; first = f; last = l; urgency = u }) s5)))))

-- ---- Reading a text, line by line

-- s is after the last of the spells in the order
unfoldable pub follows : List Spell → Spell → Bool
follows [] s = true
follows (x ∷ []) s = earlier_of x s
follows (x ∷ y ∷ l) s = follows (y ∷ l) s

-- what refuses a line that was read, after the spells of the lines before it: 1 to 5, 6, 13
unfoldable pub line_refusal : List Spell → Spell → ℕ
line_refusal before s =
    cond (eqb (refusal_of s) accepted)
    (cond (stands before s.number) duplicate_number (cond (follows before s) accepted out_of_order))
    (refusal_of s)

-- a reading's answer: the spells, or the refusal's number and its line, counted from 1
pub data Register : Type 0 where
  good : List Spell → Register
  bad : ℕ → ℕ → Register

-- document 01's number of what a reader answers: none for a value, 12 for a field that can't be read
abbrev pub found_refusal : {A : Type 0} → Found A → ℕ
found_refusal (found a rest) = accepted
found_refusal unreadable = malformed

-- what comes of a line; `next` goes on where nothing refuses it
unfoldable pub line_answer : List Spell → Found Spell → (Spell → List ℕ → Register) → Register
line_answer before unreadable next = bad (found_refusal {A = Spell} unreadable) (length before + 1)
line_answer before (found s rest) next =
    cond (eqb (line_refusal before s) accepted) (next s rest) (bad (line_refusal before s) (length before + 1))

-- the text's end, or one line more
unfoldable pub next_line : List Spell → List ℕ → (Spell → List ℕ → Register) → Register
next_line before [] next = good before
next_line before (b ∷ t) next = line_answer before (read_line (b ∷ t)) next

-- the lines after the spells before them, where `room` more may stand: 12, 1 to 5, 6, 13, then 8
unfoldable pub read_lines : ℕ → List Spell → List ℕ → Register
read_lines zero before t = next_line before t (λ s rest. bad full (length before + 1))
read_lines (suc room) before t = next_line before t (λ s rest. read_lines room (before ++ (s ∷ [])) rest)

-- a text; one above 65,536 bytes is malformed at line 0
unfoldable pub read_text : List ℕ → Register
read_text t = cond (leb (length t) 65536) (read_lines 1024 [] t) (bad malformed 0)
