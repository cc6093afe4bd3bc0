-- The loop of `calls`: what is done, and what is still to come. Assumes nothing.
use Rattle.replay.proofs.Names.{Answer, Answered, Blocks, Call, Code, Given, Holds, List, Made, Makes, None, Option, Represents, Request, Service, State, Some, [], ◌*◌, ◌++◌, ◌+◌, ◌-◌, ◌/◌, ◌<◌, ◌∙◌, ◌∷◌, ◌≡◌, ◌≤◌, add-one, answer_of, append_assoc, append-nil, append_snoc, arith, asking, code_at, code_width, decode_go, decode_stop, decode_from, drop, drop_at, drop-drop, length, length-append, length-drop, length-take, min, next_room, next_of, numbers_of, over, put_back, refl, result_width, results_of, run, step, suc, sym, take, take_at, texts_of, told, written, ℕ}

-- ---- A list that is filled from the front, part after part

-- u is in its places up to the place at, and the later ones keep what they held
pub record Filled (u : List ℕ) (at : ℕ) (l₀ l : List ℕ) : Type 0 where
  pub long : length u ≡ at
  pub is : l ≡ over u l₀

module _ {u : List ℕ} {at : ℕ} {l₀ l : List ℕ} (f : Filled u at l₀ l) where
  filled_rest : drop at l ≡ drop at l₀
  filled_rest = rw f.is (drop_at u (drop (length u) l₀) at f.long ∙ rw f.long)

  filled_more : (w : List ℕ) (k : ℕ) {l' : List ℕ} → length w ≡ k → l' ≡ (take at l ++ w) ++ drop (at + k) l → Filled (u ++ w) (at + k) l₀ l'
  filled_more w k h e =
      let front : take at l ≡ u = rw f.is (take_at u (drop (length u) l₀) at f.long) in
      let rest : drop (at + k) l ≡ drop (at + k) l₀ = rw (← drop-drop k at l, ← drop-drop k at l₀, filled_rest) in
      let all : length (u ++ w) ≡ at + k = omega (arith, f.long, length-append u w) in
      record { long = all; is = e ∙ rw (front, rest, all) }

written_snoc : {A : Type 0} (f : A → List ℕ) (l : List A) (x : A) → written f (l ++ x ∷ []) ≡ written f l ++ f x
unfolding written
written_snoc f [] x = append-nil (f x)
written_snoc f (y ∷ l) x = rw (written_snoc f l x, append_assoc)

-- a part that is lent and comes back with u in it
lent : (n k : ℕ) → n + k - n ≡ k
lent n k = omega arith

back : (n k : ℕ) (u l : List ℕ) → put_back n k u l ≡ (take n l ++ u) ++ drop (n + k) l
back n k u l = rw (lent n k, drop-drop, append_assoc)

-- ---- The loop's invariant

-- before the loop: the blocks, the codes, the days, the three lent lists; and how many codes are whole
module _ (sv₀ : Service) (bs₀ : Blocks) (codes days results₀ numbers₀ text₀ : List ℕ) (whole : ℕ) where
  -- the calls that are still to come
  abbrev left : ℕ → ℕ → ℕ → ℕ → List Request
  left made d n t = decode_from codes (whole - made) made (drop d days) (drop n numbers₀) (drop t text₀)

  -- the answers from the state m₀: those that are given and stand in the lists, and those from the state for which service and blocks stand
  pub record Reached (m₀ : State) (sv : Service) (bs : Blocks) (results numbers text : List ℕ) (made d n t : ℕ) : Type 0 where
    pub done : List Answer
    pub state : State
    pub represents : Represents sv bs state
    pub answers : run m₀ (decode_from codes whole 0 days numbers₀ text₀) ≡ done ++ run state (left made d n t)
    pub count : made ≡ length done
    pub told : Filled (results_of done) (result_width * made) results₀ results
    pub listed : Filled (numbers_of done) n numbers₀ numbers
    pub written : Filled (texts_of done) t text₀ text

  -- THE LOOP'S INVARIANT: the places reached are in their lists, which are as long as they were
  pub record Going (sv : Service) (bs : Blocks) (results numbers text : List ℕ) (made d n t : ℕ) : Type 0 where
    pub given : Given sv bs
    pub all : whole ≡ min (length codes / code_width) (length results₀ / result_width)
    pub within : (made ≤ whole) × (d ≤ length days) × (n ≤ length numbers) × (t ≤ length text)
    pub long : (length results ≡ length results₀) × (length numbers ≡ length numbers₀) × (length text ≡ length text₀)
    pub so_far : (m₀ : State) → Represents sv₀ bs₀ m₀ → Reached m₀ sv bs results numbers text made d n t

  -- before the first turn
  pub starts : Given sv₀ bs₀ → whole ≡ min (length codes / code_width) (length results₀ / result_width) → Going sv₀ bs₀ results₀ numbers₀ text₀ 0 0 0 0
  starts g all = unfold written in let z : whole - 0 ≡ whole = omega arith in let none : (l : List ℕ) → Filled [] 0 l l = λ l. record { long = refl; is = refl } in
      record {
        given = g;
        all = all;
        within = omega arith;
        long = omega arith;
        so_far = λ m₀ r.
            record { done = []; state = m₀; represents = r; answers = rw z; count = refl; told = none _; listed = none _; written = none _ };
      }

  module _ (sv : Service) (bs : Blocks) (results numbers text : List ℕ) (made d n t : ℕ) (g : Going sv bs results numbers text made d n t) where
    -- nothing is still to come
    ended : left made d n t ≡ [] → (m₀ : State) → Represents sv₀ bs₀ m₀
        → Holds (run m₀ (decode_from codes whole 0 days numbers₀ text₀)) results₀ numbers₀ text₀ made results numbers text
    ended e m₀ r = unfold run in let f = g.so_far m₀ r in rw (f.answers, e, append-nil) (search)

    pub ended_all : whole ≤ made → Answered sv₀ bs₀ codes days results₀ numbers₀ text₀ whole results numbers text
    ended_all h m₀ r = unfold decode_from in let z : whole - made ≡ 0 = omega arith in let e : made ≡ whole = omega (arith, g) in
        rw (← g.all) (rw e at (ended (rw z) m₀ r))

    -- the code that comes next, with the lists as long as they were
    next_is : (c : Code) {x y : Option Call} → x ≡ next_of c (length days - d) (length numbers - n) (length text - t) → x ≡ y
        → next_of c (length (drop d days)) (length (drop n numbers₀)) (length (drop t text₀)) ≡ y
    next_is c e is = simp length-drop (rw (g.long.1, g.long.2) at (sym e ∙ is))

    pub ended_stop : {c : Code} {x : Option Call} → c ≡ code_at codes made → x ≡ next_of c (length days - d) (length numbers - n) (length text - t) → x ≡ None
        → Answered sv₀ bs₀ codes days results₀ numbers₀ text₀ made results numbers text
    ended_stop ec e stop = rw (← g.all) (ended (decode_stop codes (drop d days) (drop n numbers₀) (drop t text₀) made (whole - made) (rw ec at (next_is _ e stop))))

    -- A turn: the call q of the code c is made
    module _ {c : Code} {x : Option Call} {q : Call} {r : Made} {bs' : Blocks} {results' numbers' text' : List ℕ} (h : made < whole) (ec : c ≡ code_at codes made)
        (is : x ≡ next_of c (length days - d) (length numbers - n) (length text - t)) (go : x ≡ Some q)
        (p : Makes sv bs q c made (record { days = d; numbers = n; text = t }) days results numbers text r bs' results' numbers' text') where
      turn_reached : (m₀ : State) → Represents sv₀ bs₀ m₀
          → Reached m₀ p.stepped.service bs' results' numbers' text' (made + 1) (d + c.days) (n + c.numbers) (t + c.text)
      turn_reached m₀ rp = unfold run in let f = g.so_far m₀ rp in
          let fit = next_room is go in
          let a : Answer = answer_of p.stepped.outcome p.ns p.ts in
          let met = rw (lent d c.days, lent n c.numbers, lent t c.text, filled_rest f.listed, filled_rest f.written) at p.met in
          let z : whole - made ≡ suc (whole - (made + 1)) = omega arith in
          let next : result_width * (made + 1) ≡ result_width * made + result_width = omega arith in
          let coded = decode_go codes (drop d days) (drop n numbers₀) (drop t text₀) made (whole - (made + 1)) c q ec (next_is c is go) in record {
            done = f.done ++ a ∷ [];
            state = (step f.state (asking q (take c.days (drop d days)) (take c.numbers (drop n numbers₀)) (take c.text (drop t text₀)))).state;
            represents = met.after f.state f.represents;
            answers = f.answers ∙ rw (z, coded, ← met.answer f.state f.represents) (simp (append_snoc, drop-drop, add-one));
            count = omega (arith, f.count, length-append f.done (a ∷ []));
            told = rw (written_snoc, next) (filled_more f.told (told a) result_width refl p.lists.0);
            listed = rw written_snoc (filled_more f.listed p.ns c.numbers (p.long.0 ∙ simp (length-take, length-drop) (omega (arith, fit, g))) (p.lists.1 ∙ back n c.numbers p.ns numbers));
            written = rw written_snoc (filled_more f.written p.ts c.text (p.long.1 ∙ simp (length-take, length-drop) (omega (arith, fit, g))) (p.lists.2 ∙ back t c.text p.ts text));
          }

      pub turned : length results' ≡ length results → length numbers' ≡ length numbers → length text' ≡ length text
          → Going r.service bs' results' numbers' text' (made + 1) r.next.days r.next.numbers r.next.text
      turned kr kn kt = let fit = next_room is go in rw (p.service, p.next) (record { given = p.met.given; all = g.all; within = omega (arith, fit, g); long = omega (arith, g); so_far = turn_reached })
