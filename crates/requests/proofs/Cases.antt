-- Lines with what they ask, computed: one for each word, and lines at the edges of the forms. Assumes nothing.
use Rattle.basis.proofs.Prelude.{◌≡◌, refl, ℕ, List, [], ◌++◌, ◌∷◌, map, cond, eqb}
use Rattle.requests.proofs.Names.{code, String, none, ◌then◌, binary32, of_bits, Urgency, Grade, Reading, passed, read_digits, read_decimal, hex_value, read_hex, read_letter, read_value, read_urgency, read_line, Enter, Amend, Strike, TakeBack, Publish, Write, Ask, Day, Span, Cover, words, begins, head_of, Demand, asks_call, asks, asks_room, asks_read, malformed, read_days, asked_by, asked_of}
use Rattle.spell.specs.declared.Spell.{Spell}
use Rattle.model.specs.declared.Question.TheVariants.{Days, Mask}

-- the bytes of a text as docs/PROTOCOL.md shows it: a space stands for a tab
unfoldable pub spelled : String → List ℕ
spelled none = []
spelled (c then s) = cond (eqb (code c) 32) 9 (code c) ∷ spelled s

abbrev spell : ℕ → ℕ → ℕ → ℕ → Urgency → Spell
spell n c f l u = record { number = n; candidate = c; first = f; last = l; urgency = u }

-- a line for each word, and one of no word
abbrev table : List (String × Demand)
table =
    ("enter 31 502 100 465 G 1\n", asks (Enter (spell 31 502 100 465 (Grade 1))))
    ∷ ("amend 32 733 120 140 C 42280000\n", asks (Amend (spell 32 733 120 140 (Reading (of_bits binary32 0x4228_0000)))))
    ∷ ("strike 33\n", asks (Strike 33))
    ∷ ("take-back\n", asks TakeBack)
    ∷ ("publish\t1\n", asks (Publish 1))
    ∷ ("publish\t65535\n", asks (Publish 65535))
    ∷ ("write\n", asks Write)
    ∷ ("day 130\n", asks (Ask (Day 130)))
    ∷ ("span 99 141\n", asks (Ask (Span 99 141)))
    ∷ ("cover 31\n", asks (Ask (Cover 31)))
    ∷ ("days 4 11 130\n", asks_call (Ask Days) (4 ∷ 11 ∷ 130 ∷ []))
    ∷ ("days\n", asks (Ask Days))
    ∷ ("mask 130 00000000000000C1\n", asks (Ask (Mask 130 193)))
    ∷ ("room 1024\n", asks_room 1024)
    ∷ ("read 45\n", asks_read 45)
    ∷ ("Day 130\n", malformed)
    ∷ []

-- lines at the edges
abbrev edges : List (String × Demand)
edges =
    -- a tab with no day after it, and none after the tab
    ("days 4 \n", malformed)
    ∷ ("days \n", malformed)
    -- the largest room, and one more
    ∷ ("room 65536\n", asks_room 65536)
    ∷ ("room 65537\n", malformed)
    -- ten digits, eleven, a leading zero
    ∷ ("read 9999999999\n", asks_read 9999999999)
    ∷ ("read 10000000000\n", malformed)
    ∷ ("read 00\n", malformed)
    -- a full mask; fifteen digits, seventeen, a small letter
    ∷ ("mask 65535 FFFFFFFFFFFFFFFF\n", asks (Ask (Mask 65535 18446744073709551615)))
    ∷ ("mask 1 000000000000001\n", malformed)
    ∷ ("mask 1 00000000000000001\n", malformed)
    ∷ ("mask 1 000000000000000a\n", malformed)
    -- a tab after a bare word, no LF, a byte after the LF
    ∷ ("publish\n", malformed)
    ∷ ("publish \n", malformed)
    ∷ ("publish\t\n", malformed)
    ∷ ("publish\t1\t2\n", malformed)
    ∷ ("publish", malformed)
    ∷ ("day 5\nx", malformed)
    ∷ []

pub lines_ask : map (λ x. asked_of 10 (spelled x.0)) (table ++ edges) ≡ map (λ x. x.1) (table ++ edges)
unfolding spelled words begins head_of asked_by asked_of read_days passed read_digits read_decimal hex_value read_hex read_letter read_value read_urgency read_line
lines_ask = refl
