-- What is decided of a call on a standing list. Assumes nothing.
use Rattle.model.specs.declared.Call.{Call}
use Rattle.spell_places.specs.Search.{found_in}
use Rattle.journal.specs.Journal.{newest_of}
use Rattle.plans.specs.Plans.{Decision, number_of, plan_of}
use Rattle.standing.specs.declared.Standing.{Standing}
use Rattle.standing.specs.Standing.{list_of}

-- by what is found under the number that the call is about
abbrev pub plan_for : Standing → Call → Decision
plan_for st c =
    let newest = newest_of st.depth st.journal in
    let f = found_in (number_of c newest.number) (list_of st) in
    plan_of c newest f.place f.spell st.count st.depth
