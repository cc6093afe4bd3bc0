-- Texts put into the scratch list from the end to the front, and the answer. Assumes nothing.
use Rattle.std.proofs.lemmas.List.{nil_from_length, take_min}
use Rattle.basis.proofs.Prelude.{append-nil, append_assoc, ◌∷◌, ◌∙◌, ◌≡◌, ap, ◌+◌, ◌-◌, ◌<◌, ◌≤◌, min, ℕ, List, [], ◌++◌, drop, drop_of_length-le, length, length-append, length-drop, length-take, min-le_right, take, take_all, arith, le-leb, lt-leb}
use lib.Ieee.{Float, binary32, to_bits}
use Rattle.fields.{proofs.{Puts.field_put, Widths.{number_width, bits_width}}, specs.{Fields.{byte_text, number_text, bits_text}, Answers.Puts}}
use Rattle.spell.specs.{declared.{Spell.Spell, Urgency.{Urgency, TheVariants.{Grade, Reading}}}}
use Rattle.register.{specs.{Text.{urgency_text, line_text, text_onto, write_all}, Answers.Writes}, proofs.Widths.{urgency_width, text_width}}
use Rattle.register_write.specs.Clauses.{Room, Ends}

-- ---- the scratch list
ends_place : {buf : List ℕ} {r : ℕ} {text : List ℕ} → Ends buf r text → r + length text ≡ 35840
ends_place {buf} {r} p = omega (arith, p.sized, p.inside, ap length p.written, length-drop r buf)

-- one field more before what is put
one_more : {buf exit : List ℕ} {i r : ℕ} {text : List ℕ} (w : ℕ) (f : List ℕ → List ℕ) → ((rest : List ℕ) → length (f rest) ≤ w + length rest)
    → Ends buf i text → w ≤ i → Puts w f buf i r exit → Ends exit r (f text) × (i ≤ r + w)
one_more w f wide p h q = let put = field_put w f wide h (omega arith) q in search arith

-- an urgency: its value, a tab and the letter
module _ (buf b1 b2 b3 : List ℕ) (at i j r : ℕ) (u : Urgency) (room : Room buf at 11) (p2 : Puts 1 (byte_text 9) b1 i j b2) where
  start : Ends buf at (drop at buf)
  start = search

  pub grade_put : (g : ℕ) → u ≡ Grade g → Puts 6 (number_text g 10) buf at i b1 → Puts 1 (byte_text 71) b2 j r b3 → Ends b3 r (urgency_text u (drop at buf))
  grade_put g is p1 p3 =
      let q1 = one_more 6 (number_text g 10) (number_width g 10) start (omega arith) p1 in
      let q2 = one_more 1 (byte_text 9) (λ _. omega arith) q1.0 (omega arith) p2 in
      rw is (one_more 1 (byte_text 71) (λ _. omega arith) q2.0 (omega arith) p3).0

  pub reading_put : (x : Float) (n : ℕ) → u ≡ Reading x → n ≡ to_bits binary32 x → Puts 9 (bits_text n 10) buf at i b1 → Puts 1 (byte_text 67) b2 j r b3
      → Ends b3 r (urgency_text u (drop at buf))
  reading_put x n is bits p1 p3 =
      let q1 = one_more 9 (bits_text n 10) (bits_width n 10) start (omega arith) p1 in
      let q2 = one_more 1 (byte_text 9) (λ _. omega arith) q1.0 (omega arith) p2 in
      rw (is, ← bits) (one_more 1 (byte_text 67) (λ _. omega arith) q2.0 (omega arith) p3).0

-- a line: its urgency, and four numbers before it
pub line_put : (s : Spell) (buf b0 b1 b2 b3 b4 : List ℕ) (at i j k m r : ℕ) → Room buf at 35 → Ends b0 i (urgency_text s.urgency (drop at buf))
    → Puts 6 (number_text s.last 9) b0 i j b1 → Puts 6 (number_text s.first 9) b1 j k b2 → Puts 6 (number_text s.candidate 9) b2 k m b3
    → Puts 6 (number_text s.number 9) b3 m r b4 → Ends b4 r (line_text s (drop at buf))
line_put s buf b0 b1 b2 b3 b4 at i j k m r room p p1 p2 p3 p4 = unfold line_text in
    let low : 24 ≤ i = omega (arith, room.sized, ends_place p, urgency_width s.urgency (drop at buf), length-drop at buf) in
    let q1 = one_more 6 (number_text s.last 9) (number_width s.last 9) p (omega arith) p1 in
    let q2 = one_more 6 (number_text s.first 9) (number_width s.first 9) q1.0 (omega (arith, q1.1)) p2 in
    let q3 = one_more 6 (number_text s.candidate 9) (number_width s.candidate 9) q2.0 (omega (arith, q1.1, q2.1)) p3 in
    (one_more 6 (number_text s.number 9) (number_width s.number 9) q3.0 (omega (arith, q1.1, q2.1, q3.1)) p4).0

-- ---- the text of the last spells of a list, those after `rest`, stands from the place `at` on
pub record Back (l rest : List Spell) (buf : List ℕ) (at : ℕ) : Type 0 where
  pub done : List Spell
  pub all : rest ++ done ≡ l
  pub few : length l ≤ 1024
  pub put : Ends buf at (text_onto done [])

-- at first none, after the first `count` of 1,024 spells
pub back_start : (spells rest : List Spell) (count : ℕ) (buf : List ℕ) → length spells ≡ 1024 → rest ≡ take (min count 1024) spells → length buf ≡ 35840
    → Back (take count spells) rest buf 35840
back_start spells rest count buf w e h = unfold text_onto in
    let whole : take (min count 1024) spells ≡ take count spells = rw w at (take_min count spells) in
    record {
      done = [];
      all = append-nil rest ∙ e ∙ whole;
      few = omega (arith, length-take count spells, min-le_right count (length spells));
      put = search (drop_of_length-le buf {i = 35840} (omega arith), arith);
    }

module _ (l rest : List Spell) (buf : List ℕ) (at : ℕ) (b : Back l rest buf at) where
  pub back_room : (s : Spell) (left : List Spell) → rest ≡ left ++ (s ∷ []) → Room buf at 35
  back_room s left e =
      let long : length rest + length b.done ≡ length l = rw length-append at (ap length b.all) in
      let one : length rest ≡ length left + 1 = ap length e ∙ length-append left (s ∷ []) in
      let wide : 35 ≤ at = omega (arith, b.few, ends_place b.put, text_width b.done) in
      search arith

  pub back_step : (exit : List ℕ) (r : ℕ) (s : Spell) (left : List Spell) → rest ≡ left ++ (s ∷ []) → Ends exit r (line_text s (drop at buf)) → Back l left exit r
  back_step exit r s left e p = unfold text_onto in
      record { done = s ∷ b.done; all = rw (e, append_assoc) at b.all; few = b.few; put = rw (← b.put.written) p }

  -- the whole text stands there: it is too long, or copied
  module _ (none : length rest ≡ 0) (out : List ℕ) where
    whole : Ends buf at (write_all l)
    whole = let same : b.done ≡ l = rw (nil_from_length rest none) at b.all in rw same at b.put

    pub too_short : length out < 35840 - at → Writes (write_all l) out (record { refusal = 11; length = 0 }) out
    too_short h = search (lt-leb (length (write_all l)) (length out) (omega (arith, ends_place whole)))

    part : take (35840 - at) (drop at buf) ≡ write_all l
    part = take_all (35840 - at) (drop at buf) (omega (arith, length-drop at buf)) ∙ whole.written

    module _ (h : 35840 - at ≤ length out) where
      pub copy_fits : length (take (35840 - at) (drop at buf)) ≤ length out
      copy_fits = omega (arith, ap length part, ends_place whole)

      module _ (exit : List ℕ) (e : exit ≡ (let part = take (35840 - at) (drop at buf) in take (length part) part ++ drop (length part) out)) where
        pub copied : Writes (write_all l) out (record { refusal = 0; length = 35840 - at }) exit
        copied =
            let same : 35840 - at ≡ length (write_all l) = omega (arith, ends_place whole) in
            let fits = le-leb (length (write_all l)) (length out) (omega arith) in
            record { answer = rw (fits, same); places = rw fits (e ∙ rw (part, take_all (length (write_all l)) (write_all l) (omega arith))) }

        pub copied_sized : length exit ≡ length out
        copied_sized = ap length e ∙ simp (length-append, length-take, length-drop) (omega (arith, copy_fits))
