-- Service and blocks at the beginning, after publish, and beside a written text. Assumes nothing.
use Rattle.basis.proofs.Prelude.{◌∙◌, ◌≡◌, ap, refl, sym, ℕ, List, [], true, by_test, false, eqb, false≢true}
use Rattle.service.proofs.Asking.{reads_met}
use Rattle.service.proofs.Names.{Register, good, bad, read_text, write_all, loaded_of, list_of, Fresh, Publish, Write, accepted, settle, fresh, begun, refusal_in, line_in, effect_of, Outcome, told_of, wrote_of, asking, index_of, Service, Stepped, service_of, Blocks, blocks, Valid, Represents, Given, keeping, Met, Publishes, Wrote, Begins}
use Rattle.spell.{specs.Listing.Sound, proofs.Order.answer_order}
use Rattle.model.{proofs.Edits.orderly_none, specs.Publishing.published_of, proofs.Publishing.published_orderly}
use Rattle.register.specs.Answers.{Read, reading_of, Written, Writes}
use Rattle.standing.{specs.declared.Standing.Standing, proofs.Loading.{loads}}
use Rattle.rules.{specs.Rules.is_rule, proofs.Rules.cut_sound}
use Rattle.published_index.specs.Index.{rule_refusal, Shows}
use Rattle.outcomes.proofs.Answers.{write_told}

-- ---- The beginning: nothing is published

pub represents_fresh : {st : Standing} {ix : List ℕ} → Fresh st → ix ≡ index_of [] → Represents (service_of st) (blocks ix) fresh
represents_fresh f e = record { valid = record { standing = f.wf }; standing = f.list; past = f.past; shows = record { good = orderly_none answer_order Sound; index = e } }

-- a reading tells its register's refusal and line, and publishes nothing
read_in : (g : Register) → ((reading_of g).refusal ≡ refusal_in g) × ((reading_of g).line ≡ line_in g) × ((begun g).published ≡ [])
unfolding reading_of begun
read_in (good l) = (refl, refl, refl)
read_in (bad n line) = (refl, refl, refl)

pub begins_read : (text : List ℕ) {got : Read} {st : Standing} {ix : List ℕ} → got ≡ reading_of (read_text text) → st ≡ loaded_of got → ix ≡ index_of []
    → Begins (read_text text) (record { service = service_of st; refusal = got.refusal; line = got.line }) (blocks ix)
begins_read text {ix = ix} r l e =
    let d = loads text (read_text text) refl in
    let t = read_in (read_text text) in
    let whole = ap service_of d.whole in
    let shows : Shows ix (begun (read_text text)).published = rw t.2 (record { good = orderly_none answer_order Sound; index = e }) in
    rw (l, r) (search)

-- ---- Publish

module _ {sv : Service} {rule : ℕ} {bs : Blocks} {r : Stepped} {bs' : Blocks} (p : Publishes sv rule bs r bs') where
  -- by a rule that there is, the index shows the published list, whatever it held before
  shown : is_rule rule ≡ true → Valid sv → Shows bs'.index (published_of rule (list_of sv.standing))
  shown e v = record { good = published_orderly rule Sound cut_sound (list_of sv.standing) v.standing.good; index = p.index ∙ rw e }

  pub publishes_given : is_rule rule ≡ true → Valid sv → Given r.service bs'
  publishes_given e v = record { valid = rw p.kept v; published = record { list = _; shows = shown e v } }

  -- where it is refused, the blocks are as they were
  unruled : is_rule rule ≡ false → bs' ≡ bs
  unruled e = ap blocks (p.index ∙ rw e)

  pub publishes_refused : eqb r.outcome.refusal accepted ≡ false → bs' ≡ bs
  publishes_refused t = by_test (is_rule rule) (λ e. absurd (false≢true (sym (rw (ap (λ (o : Outcome). o.refusal) p.outcome, e) at t)))) unruled

  -- PUBLISH is the account's
  pub publishes_met : (days numbers text : List ℕ) → Given sv bs → Met sv bs (asking (Publish rule) days numbers text) r bs' numbers text
  publishes_met days numbers text g = unfold effect_of settle in let same : r ≡ keeping sv (told_of (rule_refusal rule)) = λ i. record { service = p.kept i; outcome = p.outcome i } in rw same (by_test (is_rule rule)
      (λ e. record {
        given = record { valid = g.valid; published = record { list = _; shows = shown e g.valid } };
        answer = λ m h. rw e;
        after = λ m h. rw e (record { valid = g.valid; standing = h.standing; past = h.past; shows = rw (← h.standing) (shown e g.valid) });
      })
      (λ e. rw (unruled e) (record { given = g; answer = λ m h. rw e; after = λ m h. rw e h })))

-- ---- Writing

pub wrote : {sv : Service} {t t' : List ℕ} {wr : Written} {o : Outcome} → o ≡ wrote_of wr → Writes (write_all (list_of sv.standing)) t wr t' → Wrote sv t o t'
wrote {t = t} is w = unfold effect_of in rw is (record { met = λ bs days numbers g. reads_met refl g (λ m h. write_told m (asking Write days numbers t) _ w ∙ rw h.standing) })
