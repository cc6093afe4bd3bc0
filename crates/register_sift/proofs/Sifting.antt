-- The state after some lines, one line more, and the end. Assumes nothing.
use Rattle.basis.proofs.Prelude.{◌∙◌, ◌≡◌, ap, sym, ◌+◌, ◌<◌, ◌≤◌, ℕ, List, [], ◌++◌, ◌∷◌, append-nil, append_snoc, Bool, false, true, drop, drop_of_length-le, get_or-replicate, length, drop-drop, drop-set-lt, length-drop, length-replicate, length-set, replicate, set, take, take-append-drop, length-take-le, take-suc-set, add-one, arith, le-leb, lt-leb}
use Rattle.register_sift.proofs.Names.{Spell, read_line, lines_of, verdict, keeping, kept_after, verdicts_after, kept_of, later_lines, lines_first, passes, keeps_it, drops_it, Past, Marks, Judges}
use Rattle.spell.{specs.Blank.blank, specs.Listing.stands, proofs.Listing.stands_more}
use Rattle.register_read.proofs.Progress.{marked_more}
use Rattle.repairing.proofs.Remarks.{verdicts_length}
use Rattle.register_sift.specs.Sifting.{within_limit, Sifts}
use Rattle.std.specs.Prelude.{Result, Ok, Err}
use Rattle.refusal.{specs.{declared.Refusal.Refusal, Numbers.{number_of, number_in}}, proofs.Numbers.refused}

pub record State (text : List ℕ) (met₀ met : List ℕ) (spells : List Spell) (seen : List Bool) (count lines at : ℕ) : Type 0 where
  pub few : count ≤ 1024
  pub room : length spells ≡ 1024
  pub marks : Marks seen (take count spells)
  pub inside : at ≤ length text
  pub behind : lines ≤ at
  pub wide : length text ≤ length met
  pub sized : length met ≡ length met₀
  pub later : drop lines met ≡ drop lines met₀
  pub free : drop count spells ≡ drop count (replicate 1024 blank)
  pub keeps : kept_of text ≡ kept_after (take count spells) (lines_of (drop at text))
  pub says : verdicts_after [] (lines_of text) ≡ take lines met ++ verdicts_after (take count spells) (lines_of (drop at text))

pub begins : (text met : List ℕ) {none : Spell} → none ≡ blank → length text ≤ length met → State text met met (replicate 1024 none) (replicate 65536 false) 0 0 0
begins text met {none} e h = unfold stands in
    let room = length-replicate 1024 none in
    let marks : Marks (replicate 65536 false) [] = record { wide = length-replicate 65536 false; marked = λ k l. get_or-replicate 65536 k false false l } in
    let free = ap (λ (s : Spell). replicate 1024 s) e in
    search arith

-- past a place that is written, as it was
past_it : {A : Type 0} (l l₀ : List A) (i : ℕ) (a : A) → drop i l ≡ drop i l₀ → drop (i + 1) (set l i a) ≡ drop (i + 1) l₀
past_it l l₀ i a h = drop-set-lt (i + 1) l i a (omega arith) ∙ sym (drop-drop 1 i l) ∙ ap (drop 1) h ∙ drop-drop 1 i l₀

module _ (text met₀ met : List ℕ) (spells : List Spell) (seen : List Bool) (count lines at : ℕ) (st : State text met₀ met spells seen count lines at) where
  so_many : length (take count spells) ≡ count
  so_many = length-take-le count spells (omega arith)

  module _ (more : at < length text) (r : Result Spell Refusal) (judged : Judges text at seen count r) (next : ℕ) (past : Past text at next) where
    is : number_in r ≡ verdict (take count spells) (read_line (drop at text))
    is = judged.met (take count spells) st.marks so_many

    -- whatever is kept after the line
    on : (spells' : List Spell) (seen' : List Bool) (count' : ℕ) → keeping (take count spells) (read_line (drop at text)) ≡ take count' spells' → count' ≤ 1024
        → length spells' ≡ 1024 → Marks seen' (take count' spells') → drop count' spells' ≡ drop count' (replicate 1024 blank)
        → State text met₀ (set met lines (number_in r)) spells' seen' count' (lines + 1) next
    on spells' seen' count' then few room marks free = unfold kept_after verdicts_after in
        let first = lines_first (drop at text) (omega (arith, length-drop at text)) in
        let met-more : take (lines + 1) (set met lines (number_in r)) ≡ take lines met ++ (number_in r ∷ []) = rw add-one (take-suc-set met lines (number_in r) (omega arith)) in
        let long = length-set met lines (number_in r) in
        let later = past_it met met₀ lines (number_in r) st.later in
        let keeps : kept_of text ≡ kept_after (take count' spells') (lines_of (drop next text)) = cc in
        let says : verdicts_after [] (lines_of text) ≡ take (lines + 1) (set met lines (number_in r)) ++ verdicts_after (take count' spells') (lines_of (drop next text))
        = rw (met-more, append_snoc) (cc (is)) in
        search arith

  module _ (more : at < length text) (next : ℕ) (past : Past text at next) where
    pub drops : (r : Refusal) → Judges text at seen count (Err r) → State text met₀ (set met lines (number_of r)) spells seen count (lines + 1) next
    drops r judged =
        let is = judged.met (take count spells) st.marks so_many in
        on more (Err r) judged next past spells seen count (drops_it (take count spells) (read_line (drop at text)) (λ e. refused r (is ∙ e))) st.few st.room st.marks st.free

    pub keeps_one : (s : Spell) → Judges text at seen count (Ok s) → (n : ℕ) → n ≡ s.number → s.number < 65536
        → State text met₀ (set met lines 0) (set spells count s) (set seen n true) (count + 1) (lines + 1) next
    keeps_one s judged n named low =
        let kept = take count spells in
        let read = judged.keeps.0 in
        let room = judged.keeps.1 in
        let is = judged.met kept st.marks so_many in
        let listed : take (count + 1) (set spells count s) ≡ kept ++ (s ∷ []) = rw add-one (take-suc-set spells count s (omega arith)) in
        let passed = passes kept s read.rest (cc (is)) in
        let marks : Marks (set seen n true) (take (count + 1) (set spells count s)) = record {
          wide = length-set seen n true ∙ st.marks.wide;
          marked = λ k l. rw (listed, stands_more kept s k, ← named) (marked_more seen n k (stands kept k) (omega arith) (st.marks.marked k l));
        } in
        on more (Ok s) judged next past (set spells count s) (set seen n true) (count + 1) (cc (keeps_it kept s read.rest passed))
        (omega arith) (length-set spells count s ∙ st.room) marks (past_it spells (replicate 1024 blank) count s st.free)

  pub ends : length text ≤ at → Sifts text met₀ (record { spells = spells; count = count; lines = lines }) met
  ends h = unfold kept_after verdicts_after lines_of later_lines in
      let over = drop_of_length-le text h in
      let kept : kept_of text ≡ take count spells = st.keeps ∙ rw over in
      let said : verdicts_after [] (lines_of text) ≡ take lines met = st.says ∙ rw (over, append-nil) in
      let long = length-take-le lines met (omega arith) in
      record { answer = cc (so_many, take-append-drop count spells, verdicts_length [] (lines_of text)); said = cc (take-append-drop lines met) }

-- ---- The whole text, and one that is too long
pub within : (text : List ℕ) → length text ≤ 65536 → within_limit text ≡ text
within text h = unfold within_limit in rw (le-leb (length text) 65536 h)

pub beyond : (text : List ℕ) → 65536 < length text → within_limit text ≡ []
beyond text h = unfold within_limit in rw (lt-leb (length text) 65536 h)
