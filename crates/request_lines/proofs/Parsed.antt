-- A whole line, by the layout of its fields. Assumes nothing.
use Rattle.basis.proofs.Prelude.{◌≡◌, refl, ◌<◌, ◌≤◌, ℕ, List, [], drop, length, le-leb, lt-leb}
use Rattle.requests.{proofs.Names.{over, request_of, Call, table, head_of, read_days, asks, alone_call, if_ended, asked_by, days_by, asked_of, days_of, Parses, Asks}, specs.declared.{AloneWord.AloneWord, Head.Head, Layout.{Layout, TheVariants.{Alone, Days}}, Request.{TheVariants.{Call as RequestCall, Malformed}, Request}}}
use Rattle.request_fields.proofs.Layouts.{last}
use Rattle.request_lines.specs.Clauses.{ReadsDays}

module _ (line days : List ℕ) where
  pub parses_long : 65536 < length line → Parses line days Malformed days
  unfolding asked_of days_of
  parses_long h = search (lt-leb (length line) 65536 h)

  module _ (short : length line ≤ 65536) {h : Head} (is : h ≡ head_of table line) where
    parses_as : {l : Layout} → h.layout ≡ l → {r : Request} {exit : List ℕ} → r ≡ request_of (asked_by l (length days) (drop h.at line))
        → exit ≡ over (days_by l (length days) (drop h.at line)) days → length exit ≡ length days → Parses line days r exit
    unfolding asked_of days_of
    parses_as e a d s = let all = le-leb (length line) 65536 short in record { request = rw (all, ← is, e) a; places = rw (all, ← is, e) d; sized = s }

    -- a layout with no list of days
    pub parses_by : {l : Layout} → h.layout ≡ l → ((room : ℕ) (s : List ℕ) → days_by l room s ≡ []) → {r : Request} → Asks l (drop h.at line) r → Parses line days r days
    parses_by e none a = parses_as e (a (length days)) (rw none) refl

    -- a word that stands alone
    pub parses_alone : {w : AloneWord} → h.layout ≡ Alone w → {call : Call} → call ≡ alone_call w → {r : Request}
        → r ≡ if_ended (RequestCall call 0) (drop h.at line) → Parses line days r days
    unfolding asked_by days_by
    parses_alone {w} e c k = parses_by e (λ _ _. refl) (λ _. last (asks (alone_call w)) (drop h.at line) k (rw c))

    pub parses_days : h.layout ≡ Days → {r : Request} {exit : List ℕ} → ReadsDays (read_days (length days) (drop h.at line)) days r exit → Parses line days r exit
    unfolding asked_by days_by
    parses_days e p = parses_as e p.request p.places p.sized
