-- The names of other crates and of the definitions that the proofs use, passed on from one place. Assumes nothing.
pub use Rattle.basis.proofs.Prelude.{Bool, List, [], ◌*◌, ◌++◌, ◌+◌, ◌-◌, ◌/◌, ◌<◌, ◌∙◌, ◌∷◌, ◌≡◌, ◌≤◌, add-four, add-one, add-three, add-two, append_assoc, append-nil, append_snoc, arith, drop, drop_at, drop-drop, false, length, length-append, length-drop, length-set, length-take, min, rules, refl, sets-eq, suc, sym, take, take_at, true, ℕ}
pub use Rattle.buffer.specs.Buffer.{over}
pub use Rattle.coding.{proofs.Claims.{decode_go, decode_stop, next_room}, specs.{Coded.{code_width, next_of, numbers_of, result_width, results_of, texts_of, told}, Coding.{Coding, lent_days, lent_numbers, lent_text}, declared.Code.Code}}
unfoldable pub use Rattle.coding.specs.Coded.{code_at, decode_from}
pub use Rattle.model.specs.{Model.{Answer, Request, State, fresh, step}, declared.Call.Call}
unfoldable pub use Rattle.model.specs.Model.{run}
pub use Rattle.outcomes.specs.Outcomes.{answer_of, asking}
unfoldable pub use Rattle.packing.specs.Blocks.{written}
pub use Rattle.register.specs.Text.{read_text}
pub use Rattle.replay.specs.{Clauses.{Makes, put_back}, Replayed.{Answered, Holds, Played, Replayed, beginning, played_in}, declared.{Made.Made, Places.Places, Ran.Ran}}
pub use Rattle.service.{proofs.{Represented.represented, Tied.Is}, specs.{Service.{Begins, Blocks, Given, Represents, blocks}, declared.Service.Service}}
pub use Rattle.std.specs.Prelude.{Option, Some, None}
pub use contract.Lifetimes.{Lfts}
pub use denote.Ref.{Bor, MutBor}
