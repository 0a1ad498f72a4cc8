use Rattle.std.proofs.Common.{◌≡◌, ◌+◌, drop}
use Rattle.judging.specs.declared.causes.Judgement.{Judgement}
use Rattle.judging.specs.Judging.{JudgedFrom}
use Rattle.judging.proofs.judging.judge.Given as goal

abbrev pub invariant-loop-change : goal.invariant-loop-change
invariant-loop-change g l = record {
  number : l.number ≡ 1 + l.change-index;
  told : (judgement : Judgement) → JudgedFrom l.number l.decider.document l.store l.subject (drop l.change-index l.changes) judgement → JudgedFrom 1 l.decider.document l.store l.subject l.changes judgement;
}
