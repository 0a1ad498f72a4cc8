-- A plan's list, step by step.
use Rattle.std.proofs.Common.{◌≡◌, ℕ, ◌≤◌, true, List, ◌∷◌, ◌++◌, length, take, drop, refl, sym, ap, ◌∙◌, subst, arith, length-append}
use Rattle.std.proofs.lemmas.List.{take_at, drop_at}
use Rattle.policy_documents.specs.declared.algorithms.Algorithm.{Algorithm}
use Rattle.combining.specs.declared.questions.Question.{Question}
use Rattle.combining.specs.declared.gathering.Gathered.{Gathered}
use Rattle.decision.specs.declared.plan_nodes.PlanNode.{PlanNode}
use Rattle.decision.specs.declared.plan_nodes.PlanNode.TheVariants as plan_nodes
use Rattle.combining.specs.Gathering.{with_verdict, settled_verdict, nothing_gathered}
use Rattle.combining.specs.Finishing.{is_finished}
use Rattle.decision.specs.Plans.{Branches, no_branches, leaf, fork, flat, IsFlat, count_below, gathered_from, branches_verdict, step_verdict}
use Rattle.decision.proofs.FinishLemmas.{finished-settled}

module _ (A : Type 0) (q : Question) (met : List (List ℕ)) where
  -- the first step of some branches, with the branches below it and those after it
  pub record Opened (row : Branches) (step : PlanNode A) (behind : List (PlanNode A)) : Type 0 where
    pub below : Branches
    pub others : Branches
    pub fits : count_below A step ≤ length behind
    pub below_is : take (count_below A step) behind ≡ flat A below
    pub others_is : drop (count_below A step) behind ≡ flat A others
    pub gathers : (a : Algorithm) (g : Gathered) → gathered_from q met a g row ≡ gathered_from q met a (with_verdict a g (step_verdict q met A step below)) others

  at_once : (row : Branches) (first step : PlanNode A) (rest behind : List (PlanNode A)) → first ≡ step → rest ≡ behind → Opened row first rest → Opened row step behind
  at_once row first step rest behind e f o = subst (λ s. Opened row s behind) e (subst (λ b. Opened row first b) f o)

  pub opened : (row : Branches) (step : PlanNode A) (behind : List (PlanNode A)) → flat A row ≡ step ∷ behind → Opened row step behind
  opened no_branches step behind e = absurd cc
  opened (leaf number effect target when others) step behind e =
      let first : plan_nodes.Rule number effect target when ≡ step = cc in
      let rest : flat A others ≡ behind = cc in
      at_once (leaf number effect target when others) (plan_nodes.Rule number effect target when) step (flat A others) behind first rest
      (record { below = no_branches; others = others; fits = omega arith; below_is = refl; others_is = refl; gathers = λ a g. refl })
  opened (fork combine target below others) step behind e =
      let first : plan_nodes.Node combine target (length (flat A below)) ≡ step = cc in
      let rest : flat A below ++ flat A others ≡ behind = cc in
      at_once (fork combine target below others) (plan_nodes.Node combine target (length (flat A below))) step (flat A below ++ flat A others) behind first rest
      (record {
        below = below;
        others = others;
        fits = omega (arith, length-append (flat A below) (flat A others));
        below_is = take_at (flat A below) (flat A others) _ refl;
        others_is = drop_at (flat A below) (flat A others) _ refl;
        gathers = λ a g. refl;
      })

  -- what is left of some branches, after g was gathered from those before
  pub record Left (a : Algorithm) (row : Branches) (rest : List (PlanNode A)) (g : Gathered) : Type 0 where
    pub left : Branches
    pub is : rest ≡ flat A left
    pub same : gathered_from q met a nothing_gathered row ≡ gathered_from q met a g left

  -- one more step
  pub left-more : (a : Algorithm) (row : Branches) (rest : List (PlanNode A)) (g : Gathered) (step : PlanNode A) (behind below others : List (PlanNode A)) (next : Gathered) → Left a row rest g →
      rest ≡ step ∷ behind → below ≡ take (count_below A step) behind → others ≡ drop (count_below A step) behind →
      ((below_row : Branches) → below ≡ flat A below_row → next ≡ with_verdict a g (step_verdict q met A step below_row)) → Left a row others next
  left-more a row rest g step behind below others next l is below_is others_is next_is =
      let o = opened l.left step behind (sym l.is ∙ is) in
      record {
        left = o.others;
        is = others_is ∙ o.others_is;
        same = l.same ∙ o.gathers a g ∙ ap (λ h. gathered_from q met a h o.others) (sym (next_is o.below (below_is ∙ o.below_is)));
      }

  pub left-finished : (a : Algorithm) (row : Branches) (rest : List (PlanNode A)) (g : Gathered) → Left a row rest g → is_finished a g ≡ true → settled_verdict a g ≡ branches_verdict q met a row
  left-finished a row rest g l e = sym (ap (settled_verdict a) l.same ∙ finished-settled q met a g l.left e)

  pub left-none : (a : Algorithm) (row : Branches) (rest : List (PlanNode A)) (g : Gathered) → Left a row rest g → length rest ≡ 0 → settled_verdict a g ≡ branches_verdict q met a row
  left-none a row rest g l e = sym (ap (settled_verdict a) (l.same ∙ gathers_none l.left (ap length (sym l.is) ∙ e)))
    where
      gathers_none : (left : Branches) → length (flat A left) ≡ 0 → gathered_from q met a g left ≡ g
      gathers_none no_branches e = refl
      gathers_none (leaf number effect target when others) e = absurd (omega (arith, e))
      gathers_none (fork combine target below others) e = absurd (omega (arith, e))

  -- the steps below the first one that is left fit into the list after it, which is a plan's list
  pub fits-left : (a : Algorithm) (row : Branches) (rest : List (PlanNode A)) (g : Gathered) (step : PlanNode A) (behind : List (PlanNode A)) → Left a row rest g → rest ≡ step ∷ behind →
      count_below A step ≤ length behind
  fits-left a row rest g step behind l is = (opened l.left step behind (sym l.is ∙ is)).fits

  pub flat-left : (a : Algorithm) (row : Branches) (rest : List (PlanNode A)) (g : Gathered) (step : PlanNode A) (behind below : List (PlanNode A)) → Left a row rest g → rest ≡ step ∷ behind →
      below ≡ take (count_below A step) behind → IsFlat A below
  flat-left a row rest g step behind below l is below_is = let o = opened l.left step behind (sym l.is ∙ is) in (o.below, below_is ∙ o.below_is)
