use Rattle.search_tree.specs.Cases.{Change}
use Rattle.search_tree.specs.Nexts.{ComesTo, LooksFrom, MayMake}
use Rattle.search_tree.proofs.tree.Tree.nearest.Given as goal

abbrev pub invariant-loop-turn : goal.invariant-loop-turn
invariant-loop-turn g l =
    record {
      may : MayMake g.C.KeyClass.class l.fn.self l.room;
      first : (change : Change) → ComesTo g.C.KeyClass.class l.fn.self l.room change → ComesTo g.C.KeyClass.class l.fn.self l.fn.wanted change;
      looks : LooksFrom g.C.KeyClass.class l.fn.self 0 l.fn.wanted → LooksFrom g.C.KeyClass.class l.fn.self l._turn l.room;
    }
