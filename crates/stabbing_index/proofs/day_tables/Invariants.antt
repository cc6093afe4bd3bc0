-- The tables of the days up to d. Assumes nothing.
use Rattle.stabbing_index.proofs.{Names.{take}, DayTables.{Tabling}}
use Rattle.stabbing_index.proofs.day_tables.Given as goal

abbrev pub invariant-loop-d : goal.invariant-loop-d
invariant-loop-d l = Tabling l.rows.first.now l.rows.last.now (take l.rows.n l.rows.first.now) (take l.rows.n l.rows.last.now) l.rows.n l.parent l.start l.begun l.d l.m l.s
