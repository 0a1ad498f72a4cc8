-- `get_mut` lends a value, and the row follows it. Assumes `Logic`.
use mathlib.Core.Path.{◌≡◌, refl, sym, subst}
use mathlib.Core.Bool.{true}
use Prim.Native.Nat.{ℕ, ◌+◌, ◌*◌, ◌<◌, ◌^◌}
use native.Mathlib.Omega.{arith}
use mathlib.Core.List.{List, [], ◌∷◌}
use lib.ListN.{length, get_or, length-set}
use base.Fraction.{full_share}
use mir.Syntax.{Fn, w64, named}
use mir.Val.{Val, vint, vptr}
use base.Fml.{GName, Fml, ftrue, fsep, flft}
use seplogic.Ra.Ura.{Ura}
use mir.MapTy.{inst_fn}
use base.Logic.{SProp, ent, sep}
use prog.Memory.{Memory}
use prog.Routine.{Routine}
use prog.Wp.{Env, WpFn, Tables}
use types.Logic.{Logic, sem}
use contract.BorrowLft.{◌⊑◌}
use contract.Monad.{Fun, fact}
use contract.Running.{tables, tables_of}
use denote.RattleType.{owns}
use denote.Memory.{cell_at, part_at, part_of, mem}
use denote.Plain.{uint_vals, uint_Tells}
use denote.RawPtr.{block_ptr}
use denote.Ref.{MutRef, mut_vals, mut_Tells}
use denote.Follow.{follows, lends_Part}
use denote.Signature.{plain, types_at}
use denote.Steps.{heard, nothing}
use denote.Triple.Clauses.{Clauses, Ended, closing}
use denote.Triple.Spec.{Meets, triple_of}
use denote.Triple.Table.{entered}
use sound.WpLaws.{WpFn-mono}
use types.Kit.{‵, raw, ◌⊛◌, some, later, at_ret, ◌$◌, ◌∵◌, !, qed, move, keep, use1, use2, drop, split, split3, join, pick, fsplit, fsplit3, fjoin, fpack, suffices, frame, await, group, done}
use types.Part.{whole, sub, look_in}
use types.Run.{stop, fld, load, addr, size_lit, of_opd, bin, first, blocks, exec, returns, enter}
use types.ByLocal.{alloc_all, pass_all, free_all, look_at, get, through, sets, sets_last, env}
use denote.Exit.{yes, no}
use denote.Builtin.{usize, RefMutOf}
use denote.Triple.Walked.{says, Stays, stay_dropped, walk_of, ends_at, walked, Goes-dropped, Goes-spent_ref, walk_Meets}
use Rattle.core.specs.Option.{is_some}
use Rattle.core.specs.declared.option.Option.TheVariants.{Some, None}
use Rattle.core.proofs.mem.Param.{El, R, args, el_x}
use Rattle.core.proofs.ptr.Rows.{times_below, one_below}
use Rattle.core.proofs.slots.Bodies.{after}
use Rattle.chunks.specs.Places.{with_value}
use Rattle.chunks.proofs.OnePlace.{inside, width, others, item_out, item_in}
use Rattle.chunks.proofs.Opened.{Row, Held, Small, lying, pointer, row_opens, row_made}
use Rattle.chunks.specs.contracts.places.Places.get_mut as promised
use Rattle.chunks.specs.contracts.places.Places.get_mut.Key.{name as #self}
use Rattle.chunks.proofs.places.Places.get_mut.Statement as stated
use Rattle.chunks.proofs.places.Places.get_mut.Code as code

module _ (E : El) {M : Type 1} {𝓤 : Ura M} (𝓛 : Logic 𝓤) (rb ro b o : ℕ) (row : Held E) (i : ℕ) where
  -- what of the row is not lent
  abbrev Unlent : Fml
  Unlent = fsep (others E b o row.items i) (cell_at full_share (Row E).mir (pointer (block_ptr b o) ∷ []) rb ro)

  returned : row.at ≡ block_ptr b o → Small E row → i < length row.items → (y : el_x E)
      → ent 𝓤 (sep 𝓤 (sem 𝓛 ((mem (R E)).own_at y b (i * width E + o))) (sem 𝓛 Unlent)) (sem 𝓛 ((mem (Row E)).own_at (with_value row i y) rb ro))
  unfolding part_of
  returned is small within y =
      let new : Held E = with_value row i y in
      let still : Small E new = subst (λ (n : ℕ). n * width E < 2 ^ 63) (sym (length-set row.items i (Some y))) small in
      qed 𝓛 (‵ (part_at (R E) full_share y b (i * width E + o)) ∷ ‵ Unlent ∷ []) ∵ move ! (1 ∷ []) $ fsplit ! $ move ! (2 ∷ 0 ∷ []) $
      use2 𝓛 (‵ (lying E new b o)) (item_in E 𝓛 b o row.items i within y) $ row_made E ! new b o is still $ move ! (1 ∷ 0 ∷ []) $ fjoin ! $
      fpack ! (List Val) (λ us. fsep (cell_at full_share (Row E).mir us rb ro) ((Row E).own_val new us)) (pointer (block_ptr b o) ∷ []) $ done !

module _ (E : El) where
  abbrev body : Fn
  body = inst_fn (args E) code.function

  abbrev ended : Ended
  ended = promised.ended E.row

  abbrev stayed : Stays ended.signature.params ended.kept
  stayed = (stay_dropped (RefMutOf (0 ∷ []) tt (plain (λ _. Row E)) (λ _. tt)) no, (stay_dropped (plain (λ _. usize)) yes, tt))

  module _ {M : Type 1} {𝓤 : Ura M} (𝓛 : Logic 𝓤) (at_mem : Memory → SProp 𝓤) (run : Routine → Fun 𝓤) (𝓣 : Tables 𝓤 𝓛.H) where
    open 𝓛 use {H}

    abbrev clauses : Clauses 𝓤 ended
    clauses = promised.clauses E.row 𝓛 at_mem run

    abbrev Call : Type 0
    Call = (walk_of 𝓛 ended stayed clauses).Ghost

    abbrev passed : Call → Call
    passed z = ((z.0.0, z.0.1, z.0.2, z.0.3, (mut_vals z.0.3.0, (uint_vals w64 z.0.3.1.0, tt))), z.1)

    walk : (z : Call) → z.0.3.1.0 < 2 ^ 64
        → ent 𝓤 ((walk_of 𝓛 ended stayed clauses).pre (passed z)) (WpFn 𝓤 H 𝓣.C 𝓣.Λ body ((walk_of 𝓛 ended stayed clauses).args (passed z)) ((walk_of 𝓛 ended stayed clauses).post (passed z)))
    walk z word =
        let κ = z.0.0.0 in let κ₁ = z.0.0.1.0 in let q = z.0.1.0 in let q₁ = z.0.1.1.0 in
        let rb : ℕ = z.0.3.0.ref_ptr.0 in let ro : ℕ = z.0.3.0.ref_ptr.1 in
        let γ : GName = z.0.3.0.ghost_name in let row : Held E = z.0.3.0.now in let i : ℕ = z.0.3.1.0 in
        let Post : Val → SProp 𝓤 = (walk_of 𝓛 ended stayed clauses).post (passed z) in
        let w : ℕ = width E in
        qed 𝓛 (((‵ (flft κ q) ⊛ ‵ (flft κ₁ q₁) ⊛ ‵ ftrue) ⊛ ‵ (owns (types_at ended.signature.params z.0.0) z.0.3 (passed z).0.4))
        ∷ (raw (fact 𝓤 (κ₁ ⊑ E.row.lives)) ⊛ raw (fact 𝓤 (i < length row.items)) ⊛ raw (fact 𝓤 (is_some (get_or row.items i None) ≡ true))) ∷ []) ∵
        move ! (1 ∷ []) $ split ! $ drop ! $ split ! $ heard ! (i < length row.items) (λ within. heard ! (is_some (get_or row.items i None) ≡ true) (λ filled.
        let found = inside (get_or row.items i None) filled in let x : el_x E = found.0 in
        split ! $ split ! $ move ! (2 ∷ []) $ fsplit ! $ fsplit3 ! $ keep ! (1 ∷ 2 ∷ 4 ∷ 5 ∷ []) $
        enter ! 𝓣.C 𝓣.Λ body (vptr rb ro ∷ vint w64 i ∷ []) _ $ alloc_all ! (λ l. pass_all ! refl ((tt, tt), ((tt, record { fits = word }), tt)) $
        let En : Env 𝓤 H = env body.locals l in
        row_opens E ! tt row rb ro (λ b o is small.
        let one_small : w < 2 ^ 63 = one_below (length row.items) w (2 ^ 63) (omega arith) small in let one_fits : w < 2 ^ 64 = omega arith in
        let up_to : i * w < 2 ^ 63 = times_below i (length row.items) w (2 ^ 63) (omega arith) small in let fits : i * w < 2 ^ 64 = omega arith in
        first ! $ blocks ! $
        sets ! (of_opd ! (load ! (through ! refl (fld ! refl (stop !))) (look_in ! 1 (sub ! 0 refl (whole !))))) refl (tt, tt) $
        sets ! (bin ! (get ! refl) (size_lit ! (record { fits = one_fits })) (record { fits = fits })) refl (tt, record { fits = fits }) $
        sets ! (bin ! (get ! refl) (get ! refl) tt) refl (tt, tt) $ sets_last ! (addr ! (through ! refl (stop !))) refl (tt, tt) $
        exec ! 𝓣.C 𝓣.Λ En (after 1 body.body) (at_ret En Post) $ sets ! (of_opd ! (get ! refl)) refl (tt, tt) $
        use1 𝓛 (‵ (part_at (R E) full_share x b (i * w + o)) ⊛ ‵ (others E b o row.items i)) (item_out E 𝓛 b o row.items i within x found.1) $ split ! $
        move ! (1 ∷ 2 ∷ []) $ fjoin ! $ move ! (2 ∷ 3 ∷ 4 ∷ 1 ∷ 0 ∷ []) $ group ! 5 $
        use1 𝓛 (later (some (λ (γ' : GName). ‵ ((MutRef (named 0) κ (R E)).own_val (record { ref_ptr = (b, i * w + o); ghost_name = γ'; now = x }) (vptr b (i * w + o) ∷ [])) ⊛ ‵ (flft κ q) ⊛ ‵ (follows (Row E) (R E) γ γ' (with_value row i)))))
        (lends_Part 𝓛 (Row E) (R E) (with_value row i) (named 0) κ q rb ro b (i * w + o) γ (sem 𝓛 (Unlent E 𝓛 rb ro b o row i)) (returned E 𝓛 rb ro b o row i is small within) ((Row E).coded.code row) ((Row E).coded.code row) x) $
        await ! tt $ pick ! (λ γ'. split3 ! $ returns ! (look_at ! 0 refl) $ free_all ! refl $
        suffices ! _ (ends_at 𝓛 ended stayed clauses (passed z) (vptr b (i * w + o)) (record { ref_ptr = (b, i * w + o); ghost_name = γ'; now = x }) (tt, (tt, tt)) (tt, (tt, tt))) $
        nothing ! $ nothing ! $ fjoin ! $ nothing ! $ fjoin ! $ join ! $ move ! (1 ∷ 3 ∷ []) $ join ! $ join ! $ frame ! $ says ! found.1 $ keep ! (0 ∷ []) $ done !)))))

    meets : Meets 𝓛 ended.signature (WpFn 𝓤 H 𝓣.C 𝓣.Λ body) (closing 𝓛 ended clauses)
    meets =
        walk_Meets 𝓛 ended stayed (Goes-spent_ref 𝓛 2 (0 ∷ []) tt (plain (λ _. Row E)), (Goes-dropped 𝓛 2 (plain (λ _. usize)) yes (λ κs x f. refl), tt)) clauses (WpFn 𝓤 H 𝓣.C 𝓣.Λ body) (WpFn-mono 𝓤 H 𝓛.laws 𝓣 body)
        (walked 𝓛 ended stayed clauses (WpFn 𝓤 H 𝓣.C 𝓣.Λ body) (λ κs. (mut_vals, (uint_vals w64, tt))) (λ κs. (mut_Tells (named 0) κs.0 (Row E), (uint_Tells w64, tt)))
        (λ κs qs bounds given ghosts are. walk ((κs, qs, bounds, given, (mut_vals given.0, (uint_vals w64 given.1.0, tt))), ghosts) are.1.0.1))

pub get_mut_spec : {M : Type 1} → stated.statement M
unfolding tables_of
get_mut_spec 𝓤 𝓛 𝓜 𝓡 wired X L =
    let E : El = record { row = X; laws = L } in
    let 𝓣 : Tables 𝓤 𝓛.H = tables_of 𝓤 𝓛.H 𝓜 (tables 𝓤 𝓛.H 𝓜 𝓡 𝓡.env) in
    entered 𝓤 𝓛.H (triple_of 𝓛 (promised.signature X) (promised.spec X 𝓛 𝓜.mem 𝓡.returns)) 𝓣.C 𝓣.Λ (#self (args E)) (body E) (code.unfolded 𝓤 𝓛.H 𝓜 𝓡 wired (X, tt))
    (meets E 𝓛 𝓜.mem 𝓡.returns 𝓣)
