-- `put` writes a value into the room of an empty place. Assumes `Logic`.
use mathlib.Core.Path.{◌≡◌, refl, sym, subst}
use Prim.Native.Nat.{ℕ, ◌+◌, ◌*◌, ◌<◌, ◌^◌}
use native.Mathlib.Omega.{arith}
use mathlib.Core.List.{List, [], ◌∷◌}
use lib.ListN.{length, get_or, set, length-set}
use mir.Syntax.{Fn, w64}
use mir.Val.{Val, vunit, vint, vptr}
use base.Fml.{ftrue, froom, flft}
use seplogic.Ra.Ura.{Ura}
use mir.MapTy.{inst_fn}
use base.Logic.{SProp, ent}
use prog.Memory.{Memory}
use prog.Routine.{Routine}
use prog.Wp.{Env, WpFn, Tables}
use types.Logic.{Logic}
use contract.BorrowLft.{◌⊑◌}
use contract.Monad.{Fun, fact}
use contract.Running.{tables, tables_of}
use denote.RattleType.{owns}
use denote.Signature.{plain, types_at}
use denote.Steps.{heard, nothing}
use denote.Triple.Clauses.{Clauses, Ended, closing}
use denote.Triple.Spec.{Meets, triple_of}
use denote.Triple.Table.{entered}
use sound.WpLaws.{WpFn-mono}
use types.Kit.{‵, raw, ◌⊛◌, at_ret, ◌$◌, ◌∵◌, !, qed, move, keep, use1, use3, drop, split, join, fsplit, fsplit3, fjoin, fjoin3, feq_i, suffices, done}
use types.Part.{whole, sub, look_in}
use types.Run.{init, stop, fld, load, size_lit, unit_lit, of_opd, bin, assigns_last, first, blocks, exec, returns, enter}
use types.ByLocal.{alloc_all, pass_all, free_all, look_at, get, through, sets, env}
use denote.Exit.{yes, no}
use denote.Builtin.{usize}
use denote.Triple.Entry.{Vals}
use denote.Triple.Walked.{Stays, stay_dropped, stay_ref, walk_of, ends_at, Goes-dropped, Goes-ref, walk_Meets}
use Rattle.core.specs.declared.option.Option.TheVariants.{Some, None}
use Rattle.core.proofs.mem.Param.{El, R, args, el_x, elτ, Good, lawful, one}
use Rattle.core.proofs.mem.Facts.{says_two}
use Rattle.core.proofs.ptr.Rows.{times_below, one_below}
use Rattle.core.proofs.slots.Bodies.{after, knowing}
use Rattle.chunks.proofs.OnePlace.{width, others, room_out, value_in}
use Rattle.chunks.proofs.Opened.{Row, Held, Small, lying, row_opens, row_closes}
use Rattle.chunks.specs.contracts.places.Places.put as promised
use Rattle.chunks.specs.contracts.places.Places.put.Key.{name as #self}
use Rattle.chunks.proofs.places.Places.put.Statement as stated
use Rattle.chunks.proofs.places.Places.put.Code as code

module _ (E : El) where
  abbrev body : Fn
  body = inst_fn (args E) code.function

  abbrev ended : Ended
  ended = promised.ended E.row

  abbrev stayed : Stays ended.signature.params ended.kept
  stayed = (stay_ref (0 ∷ []) tt (plain (λ _. Row E)), (stay_dropped (plain (λ _. usize)) yes, (stay_dropped (plain (λ _. R E)) no, tt)))

  module _ {M : Type 1} {𝓤 : Ura M} (𝓛 : Logic 𝓤) (at_mem : Memory → SProp 𝓤) (run : Routine → Fun 𝓤) (𝓣 : Tables 𝓤 𝓛.H) where
    open 𝓛 use {H}

    abbrev clauses : Clauses 𝓤 ended
    clauses = promised.clauses E.row 𝓛 at_mem run

    abbrev Call : Type 0
    Call = (walk_of 𝓛 ended stayed clauses).Ghost

    abbrev Runs : Call → Type 1
    Runs call = ent 𝓤 ((walk_of 𝓛 ended stayed clauses).pre call) (WpFn 𝓤 H 𝓣.C 𝓣.Λ body ((walk_of 𝓛 ended stayed clauses).args call) ((walk_of 𝓛 ended stayed clauses).post call))

    abbrev with_words : (z : Call) → Vals ended.signature z.0.0 → Call
    with_words z words = ((z.0.0, z.0.1, z.0.2, z.0.3, words), z.1)

    abbrev passed : Call → Val → Call
    passed z v = with_words z (vptr z.0.3.0.ref_ptr.0 z.0.3.0.ref_ptr.1 ∷ [], (vint w64 z.0.3.1.0 ∷ [], (v ∷ [], tt)))

    walk : (z : Call) → z.0.3.1.0 < 2 ^ 64 → (v : Val) → Good E v → Runs (passed z v)
    walk z word v typed =
        let κ = z.0.0.0 in let κ₁ = z.0.0.1.0 in let q = z.0.1.0 in let q₁ = z.0.1.1.0 in
        let rb : ℕ = z.0.3.0.ref_ptr.0 in let ro : ℕ = z.0.3.0.ref_ptr.1 in
        let row : Held E = z.0.3.0.now in let i : ℕ = z.0.3.1.0 in let x : el_x E = z.0.3.1.1.0 in
        let Post : Val → SProp 𝓤 = (walk_of 𝓛 ended stayed clauses).post (passed z v) in
        let w : ℕ = width E in
        let new : Held E = record { at = row.at; items = set row.items i (Some x) } in
        qed 𝓛 (((‵ (flft κ q) ⊛ ‵ (flft κ₁ q₁) ⊛ ‵ ftrue) ⊛ ‵ (owns (types_at ended.signature.params z.0.0) z.0.3 (passed z v).0.4))
        ∷ (raw (fact 𝓤 (κ₁ ⊑ E.row.lives)) ⊛ raw (fact 𝓤 (i < length row.items)) ⊛ raw (fact 𝓤 (get_or row.items i None ≡ None))) ∷ []) ∵
        move ! (1 ∷ []) $ split ! $ drop ! $ split ! $ heard ! (i < length row.items) (λ within. heard ! (get_or row.items i None ≡ None) (λ empty.
        split ! $ split ! $ move ! (2 ∷ []) $ fsplit3 ! $ fsplit3 ! $ move ! (4 ∷ []) $ fsplit ! $ keep ! (3 ∷ 4 ∷ 6 ∷ 0 ∷ 7 ∷ []) $
        enter ! 𝓣.C 𝓣.Λ body (vptr rb ro ∷ vint w64 i ∷ v ∷ []) _ $ alloc_all ! (λ l. pass_all ! refl ((tt, tt), ((tt, record { fits = word }), (typed, tt))) $
        let En : Env 𝓤 H = env body.locals l in
        row_opens E ! tt row rb ro (λ b o is small.
        let one_small : w < 2 ^ 63 = one_below (length row.items) w (2 ^ 63) (omega arith) small in let one_fits : w < 2 ^ 64 = omega arith in
        let up_to : i * w < 2 ^ 63 = times_below i (length row.items) w (2 ^ 63) (omega arith) small in let fits : i * w < 2 ^ 64 = omega arith in
        use1 𝓛 (‵ (froom (elτ E) b (i * w + o)) ⊛ ‵ (others E b o row.items i)) (room_out E 𝓛 b o row.items i within empty) $ split ! $
        -- [the room; the other places; the pointer; the open loan; its halves; what x owns; a token]
        first ! $ blocks ! $
        sets ! (of_opd ! (load ! (through ! refl (fld ! refl (stop !))) (look_in ! 2 (sub ! 0 refl (whole !))))) refl (tt, tt) $
        sets ! (bin ! (get ! refl) (size_lit ! (record { fits = one_fits })) (record { fits = fits })) refl (tt, record { fits = fits }) $
        sets ! (bin ! (get ! refl) (get ! refl) tt) refl (tt, tt) $ sets ! (of_opd ! (get ! refl)) refl typed $
        assigns_last ! (of_opd ! (get ! refl)) (through ! refl (stop !)) (init ! 0 refl typed) $
        exec ! 𝓣.C 𝓣.Λ En (after 1 body.body) (at_ret En Post) $ sets ! (of_opd ! (unit_lit !)) refl (tt, tt) $
        move ! (0 ∷ 6 ∷ []) $ use3 𝓛 (‵ (lying E new b o)) (value_in E 𝓛 b o row.items i within x v) $
        let still : Small E new = subst (λ (n : ℕ). n * w < 2 ^ 63) (sym (length-set row.items i (Some x))) small in
        row_closes E ! tt new b o rb ro is still $ returns ! (look_at ! 0 refl) $ free_all ! refl $
        suffices ! _ (ends_at 𝓛 ended stayed clauses (passed z v) vunit tt (new, (tt, (tt, tt))) (tt, (tt, (tt, tt)))) $ says_two ! (refl, refl) $
        feq_i ! (List Val) (vptr rb ro ∷ []) (vptr rb ro ∷ []) refl $ fjoin3 ! $ nothing ! $ nothing ! $ fjoin ! $ nothing ! $ fjoin ! $ move ! (1 ∷ 0 ∷ []) $ fjoin ! $
        move ! (1 ∷ 2 ∷ []) $ join ! $ feq_i ! (List Val) (vunit ∷ []) (vunit ∷ []) refl $ keep ! (1 ∷ 2 ∷ 0 ∷ []) $ done !))))

    meets : Meets 𝓛 ended.signature (WpFn 𝓤 H 𝓣.C 𝓣.Λ body) (closing 𝓛 ended clauses)
    meets =
        walk_Meets 𝓛 ended stayed (Goes-ref 𝓛 2 0 tt (plain (λ _. Row E)), (Goes-dropped 𝓛 2 (plain (λ _. usize)) yes (λ κs x f. refl), (Goes-dropped 𝓛 2 (plain (λ _. R E)) no (λ κs x f. refl), tt))) clauses
        (WpFn 𝓤 H 𝓣.C 𝓣.Λ body) (WpFn-mono 𝓤 H 𝓛.laws 𝓣 body)
        (λ z. let given = z.0.3 in let words = z.0.4 in
        knowing 𝓛 ended stayed clauses (WpFn 𝓤 H 𝓣.C 𝓣.Λ body) z (λ are.
        let value = one E words.1.1.0 ((lawful E 𝓛).typed given.1.1.0 words.1.1.0 are.1.1.0) in
        subst (λ (ws : Vals ended.signature z.0.0). Runs (with_words z ws)) (sym (λ k. (are.0.0 k, (are.1.0.0 k, (value.1 k, tt))))) (walk z are.1.0.1 value.0 value.2)))

pub put_spec : {M : Type 1} → stated.statement M
unfolding tables_of
put_spec 𝓤 𝓛 𝓜 𝓡 wired X L =
    let E : El = record { row = X; laws = L } in
    let 𝓣 : Tables 𝓤 𝓛.H = tables_of 𝓤 𝓛.H 𝓜 (tables 𝓤 𝓛.H 𝓜 𝓡 𝓡.env) in
    entered 𝓤 𝓛.H (triple_of 𝓛 (promised.signature X) (promised.spec X 𝓛 𝓜.mem 𝓡.returns)) 𝓣.C 𝓣.Λ (#self (args E)) (body E) (code.unfolded 𝓤 𝓛.H 𝓜 𝓡 wired (X, tt))
    (meets E 𝓛 𝓜.mem 𝓡.returns 𝓣)
