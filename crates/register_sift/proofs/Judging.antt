-- One line: where it ends, byte by byte, and what it meets, at each way out of the judge. Assumes nothing.
use Rattle.basis.proofs.Prelude.{◌∙◌, ◌≡◌, ap, sym, ◌+◌, ◌-◌, ◌<◌, ◌≤◌, ℕ, List, [], ◌∷◌, Bool, false, true, by_test, eqb, drop, drop_of_length-le, get_or, length, arith, le-ltb, ne_eqb}
use Rattle.std.specs.Prelude.{Option, Some, None, Ok, Err}
use Rattle.refusal.{specs.{declared.Refusal.Refusal, Numbers.{number_of}}, proofs.Numbers.refused}
use Rattle.fields.specs.Answers.{Reads as Answers}
use Rattle.register_sift.proofs.Names.{Spell, refusal_of, Found, here, said, read_line, after_line, byte_passed, verdict, verdict_none, Past, Marks, Judges}

-- ---- Its end: what follows the line is what follows it from the place before `next` on

-- after the last byte nothing follows, whatever it is
last : (b : ℕ) → after_line (b ∷ []) ≡ []
unfolding after_line
last b = by_test (eqb b 10) (λ e. rw e) (λ e. rw e)

module _ (text : List ℕ) (at next : ℕ) (e : after_line (drop at text) ≡ after_line (drop (next - 1) text)) (l : at < next) where
  on : next - 1 + 1 ≡ next
  on = omega arith

  pub ends_here : next < length text → get_or text (next - 1) 0 ≡ 10 → Past text at next
  ends_here h b = unfold after_line in let rest : after_line (drop at text) ≡ drop next text = e ∙ rw (here text (next - 1) (omega arith), b, on) in search arith

  pub goes_on : next < length text → (get_or text (next - 1) 0 ≡ 10 → ⊥) → after_line (drop at text) ≡ after_line (drop (next + 1 - 1) text)
  goes_on h n = let z : next - 1 + 1 ≡ next + 1 - 1 = omega arith in
      e ∙ ap after_line (here text (next - 1) (omega arith)) ∙ byte_passed (get_or text (next - 1) 0) (drop (next - 1 + 1) text) n ∙ ap (λ (i : ℕ). after_line (drop i text)) z

  pub ends_text : at < length text → next ≡ length text → Past text at (length text)
  ends_text k h = let none : drop next text ≡ [] = drop_of_length-le text {i = next} (omega arith) in
      let after : after_line (drop at text) ≡ [] = e ∙ ap after_line (here text (next - 1) (omega arith)) ∙ rw (on, none) (last (get_or text (next - 1) 0)) in
      let rest : drop (length text) text ≡ after_line (drop at text) = rw (after, ← h) none in search arith

-- ---- What it meets

module _ (text : List ℕ) (at : ℕ) (seen : List Bool) (count : ℕ) (few : count ≤ 1024) (x : Option (Spell × ℕ)) (p : Answers text x (read_line (drop at text))) where
  dropped : {f : Found Spell} (r : Refusal) → read_line (drop at text) ≡ f
      → ((kept : List Spell) → Marks seen kept → length kept ≡ count → verdict kept f ≡ number_of r) → Judges text at seen count (Err r)
  dropped r e v = record { met = λ kept m h. sym (ap (verdict kept) e ∙ v kept m h); keeps = tt }

  pub unread : (r : Refusal) → number_of r ≡ 12 → x ≡ None → Judges text at seen count (Err r)
  unread r k e = unfold verdict in dropped r (said p e) (λ kept m h. sym k)

  module _ (s : Spell) (next : ℕ) (e : x ≡ Some (s, next)) where
    pub not_entered : (r : Refusal) → number_of r ≡ refusal_of s → Judges text at seen count (Err r)
    not_entered r is = unfold verdict in dropped r (said p e) (λ kept m h. rw (← is, ne_eqb (number_of r) 0 (refused r)))

    module _ (ok : 0 ≡ refusal_of s) (low : s.number < 65536) (n : ℕ) (is : n ≡ s.number) where
      pub taken : (r : Refusal) → number_of r ≡ 6 → get_or seen n false ≡ true → Judges text at seen count (Err r)
      taken r k t = unfold verdict in dropped r (said p e) (λ kept m h. rw (← ok, ← is, sym (m.marked n (omega arith)) ∙ t, k))

      module _ (free : get_or seen n false ≡ false) where
        pub no_room : (r : Refusal) → number_of r ≡ 8 → 1024 ≤ count → Judges text at seen count (Err r)
        no_room r k f = unfold verdict in
            dropped r (said p e) (λ kept m h. rw (← ok, ← is, sym (m.marked n (omega arith)) ∙ free, le-ltb (length kept) 1024 (omega arith), k))

        pub passes : count < 1024 → Judges text at seen count (Ok s)
        passes room =
            let met : (kept : List Spell) → Marks seen kept → length kept ≡ count → 0 ≡ verdict kept (read_line (drop at text))
            = λ kept m h. sym (ap (verdict kept) (said p e) ∙ verdict_none kept s _ (record { entered = sym ok; new = rw is at (sym (m.marked n (omega arith)) ∙ free); room = omega arith })) in
            record { met = met; keeps = (record { rest = _; line = said p e }, room) }
