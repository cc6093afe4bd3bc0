-- What the code makes of the words, part by part, is a plan carried out on the standing list that they hold. Assumes nothing.
use Rattle.basis.proofs.Prelude.{◌∙◌, ◌≡◌, ap, sym, ◌*◌, ◌-◌, ◌<◌, ◌≤◌, ℕ, List, drop, get_or, length, set, take, drop_at, arith}
use Rattle.std.specs.Prelude.{Result, Ok, Err, is_some, unwrap_or}
use Rattle.refusal.specs.{Table.accepted, Numbers.{number_in, number_of as refusal_number}, declared.Refusal.Refusal}
use Rattle.standing_words.proofs.Names.{After, Amend, Ask, Call, Decides, Decision, Does, EditedIn, Enter, Exchanges, Laid, Located, Notes, Plan, Planned, Publish, Standing, Strike, TakeBack, Takes, Undo, Wf, Write, applied, array_of, array_in, assembled, blank, blank_entry, changes_by, count_place, counted_of, counts_by, deepens_by, deeper_by, depth_place, does, entries_long, entries_of, entry_of, entry_width, entry_words, found_in, journal_of, journal_in, journal_length, mul_comm, notes_by, number_of, packed, parts_at, plan_for, plan_of, put_back, refuses, rejoined, spell_words, spells_long, spells_length, spells_of, standing_length, unpacked, unpacked_assembled, with_array, written}

-- what any call leaves is a standing list that the calls gave
does_wf : {st : Standing} (w : Wf st) (c : Call) (r : After) → Does st c r → Wf r.standing
unfolding Does
does_wf w (Enter s) r d = d.wf
does_wf w (Amend s) r d = d.wf
does_wf w (Strike k) r d = d.wf
does_wf w TakeBack r d = d.wf
does_wf w (Publish rule) r d = rw d w
does_wf w Write r d = rw d w
does_wf w (Ask q) r d = rw d w

-- words whose parts are as they are written
laid_assembled : (a b : List ℕ) (n d : ℕ) → length a ≡ spells_length → length b ≡ journal_length → written spell_words (spells_of a) ≡ a → written entry_words (entries_of b) ≡ b
    → Laid (assembled a b n d)
laid_assembled a b n d array journal p q = rw (unpacked_assembled a b n d array journal) (unfold packed in rw (p, q))

abbrev count_in : List ℕ → ℕ
count_in x = get_or x count_place 0

abbrev depth_in : List ℕ → ℕ
depth_in x = get_or x depth_place 0

-- what is decided, as the code finds it
pub planned_in : (x : List ℕ) (c : Call) {e : Undo} {i k : ℕ} {f : Located} {r : Result Plan Refusal} → length x ≡ standing_length → Wf (unpacked x) → i ≡ depth_in x - 1
    → e ≡ entry_of (drop (entry_width * i) (journal_in x)) → k ≡ number_of c e.number → f ≡ found_in k (take (count_in x) (spells_of (array_in x)))
    → Decides (depth_in x) (plan_of c e f.place f.spell (count_in x) (depth_in x)) r → Takes c (number_in r) → Planned x c r
unfolding unpacked
planned_in x c {e} {i} whole w ei ee ek ef decided takes =
    let newest : e ≡ get_or (entries_of (journal_in x)) (depth_in x - 1) blank_entry =
    ee ∙ rw (← ei, parts_at entry_width _ 64 i (journal_in x) blank_entry (omega (arith, w.depth_within)), mul_comm entry_width i) in
    record { whole = whole; wf = w; is = rw (ef, ek, newest) at decided; takes = takes }

pub count_within : (x : List ℕ) → Wf (unpacked x) → count_in x ≤ 1024
count_within x w = unfold unpacked in w.count_within

-- by a refusal no word changes
pub refused : (x : List ℕ) (c : Call) (z : Refusal) → Planned x c (Err z) → EditedIn c x (refusal_number z) x
refused x c z known = record { does = refuses known.wf c known.is known.takes; laid = λ h. h }

module _ (x : List ℕ) (c : Call) (p : Plan) (known : Planned x c (Ok p)) where
  abbrev decision : Decision
  decision = plan_for (unpacked x) c

  -- carried out, it is what the account says
  done : Does (unpacked x) c (record { standing = applied (unpacked x) decision; refusal = accepted })
  done = rw known.is.0 at (does known.wf c (rw known.is.0 known.takes))

  -- what is left of it can stand
  after : Wf (applied (unpacked x) decision)
  after = does_wf known.wf c _ done

  pub depth_fits : {d : ℕ} → d ≡ deeper_by p.depth (is_some p.note) → d < 65536
  depth_fits is = omega (arith, is, deepens_by (unpacked x) decision known.is.1, after.depth_within)

  -- its parts are as they are written
  laid_parts : Laid x → (written spell_words (spells_of (array_in x)) ≡ array_in x) × (written entry_words (entries_of (journal_in x)) ≡ journal_in x)
  unfolding unpacked packed
  laid_parts h =
      let st = unpacked x in
      let spells = spells_long st known.wf.places known.wf.rooms in
      let entries = entries_long st known.wf.places known.wf.rooms in (
        sym (ap array_in h ∙ array_of (written spell_words st.spells) (written entry_words st.journal) (count_in x) (depth_in x) spells entries),
        sym (ap journal_in h ∙ journal_of (written spell_words st.spells) (written entry_words st.journal) (count_in x) (depth_in x) spells entries),
      )

  pub edited : {a b : List ℕ} {m d : ℕ} → Exchanges (count_in x) p.out (is_some p.put) (unwrap_or p.put blank) (array_in x) a
      → Notes p.depth (is_some p.note) (unwrap_or p.note blank_entry) (journal_in (with_array x a)) b → m ≡ counted_of (count_in x) p.out (is_some p.put) → d ≡ deeper_by p.depth (is_some p.note)
      → EditedIn c x accepted (set (set (rejoined x a b) count_place m) depth_place d)
  unfolding unpacked
  edited {a} {b} {m} {d} change note em ed =
      let st = unpacked x in
      let noted = rw (drop_at a (drop spells_length x) spells_length change.long) at note in
      rw (put_back x a known.whole change.long b note.long m d) (record {
        does = rw (unpacked_assembled a b m d change.long note.long, change.read, em, noted.read, ed, changes_by st decision known.is.1, counts_by st decision known.is.1, notes_by st decision known.is.1 (entries_of (journal_in x)), deepens_by st decision known.is.1) done;
        laid = λ h. let own = laid_parts h in laid_assembled a b m d change.long note.long (rw change.read (change.laid own.0)) (rw noted.read (noted.laid own.1));
      })
