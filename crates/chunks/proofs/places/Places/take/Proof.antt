-- `take` reads a value out, and leaves room in its place. Assumes `Logic`.
use mathlib.Core.Path.{◌≡◌, refl, sym, subst}
use mathlib.Core.Bool.{true}
use Prim.Native.Nat.{ℕ, ◌+◌, ◌*◌, ◌<◌, ◌^◌}
use native.Mathlib.Omega.{arith}
use mathlib.Core.List.{List, [], ◌∷◌}
use lib.ListN.{length, get_or, set, length-set}
use mir.Syntax.{Fn, Body, w64, seq, assign, place, rv_opd, copy, return, named}
use mir.Val.{Val, vint, vptr}
use base.Fraction.{full_share}
use base.Fml.{ftrue, fat, flft}
use seplogic.Ra.Ura.{Ura}
use mir.MapTy.{inst_fn}
use base.Logic.{SProp, ent}
use prog.Memory.{Memory}
use prog.Routine.{Routine}
use prog.Wp.{Env, WpFn, Tables}
use types.Logic.{Logic}
use contract.BorrowLft.{◌⊑◌}
use contract.Monad.{Fun, fact}
use contract.Running.{tables, tables_of}
use denote.RattleType.{owns}
use denote.Plain.{uint_vals, uint_Tells}
use denote.Ref.{mut_vals, mut_Tells}
use denote.Signature.{plain, types_at}
use denote.Steps.{heard, nothing}
use denote.Triple.Clauses.{Clauses, Ended, closing}
use denote.Triple.Spec.{Meets, triple_of}
use denote.Triple.Table.{entered}
use sound.WpLaws.{WpFn-mono}
use types.Kit.{‵, raw, ◌⊛◌, some, given, at_ret, ◌$◌, ◌∵◌, !, qed, move, keep, use1, use2, drop, split, split3, join, pick, learn, fsplit, fsplit3, fjoin, fjoin3, feq_i, suffices, done}
use types.Part.{whole, sub, look_in}
use types.Run.{look, forget, stop, fld, load, size_lit, of_opd, bin, first, blocks, exec, returns, enter}
use types.ByLocal.{alloc_all, pass_all, free_all, look_at, get, through, sets, sets_last, env}
use denote.Exit.{yes}
use denote.Builtin.{usize}
use denote.Triple.Walked.{Stays, stay_dropped, stay_ref, walk_of, ends_at, walked, Goes-dropped, Goes-ref, walk_Meets}
use Rattle.core.specs.Option.{is_some}
use Rattle.core.specs.declared.option.Option.TheVariants.{Some, None}
use Rattle.core.proofs.mem.Param.{El, args, el_x, elτ, Good}
use Rattle.core.proofs.mem.Facts.{says_three}
use Rattle.core.proofs.ptr.Rows.{times_below, one_below}
use Rattle.chunks.proofs.OnePlace.{inside, width, others, value_out, room_in}
use Rattle.chunks.proofs.Opened.{Row, Held, Small, lying, row_opens, row_closes}
use Rattle.chunks.specs.contracts.places.Places.take as promised
use Rattle.chunks.specs.contracts.places.Places.take.Key.{name as #self}
use Rattle.chunks.proofs.places.Places.take.Statement as stated
use Rattle.chunks.proofs.places.Places.take.Code as code

-- what runs once the value is read
abbrev rest : Body
rest = seq (assign (place 0 []) (rv_opd (copy (place 3 [])))) return

module _ (E : El) where
  abbrev body : Fn
  body = inst_fn (args E) code.function

  abbrev ended : Ended
  ended = promised.ended E.row

  abbrev stayed : Stays ended.signature.params ended.kept
  stayed = (stay_ref (0 ∷ []) tt (plain (λ _. Row E)), (stay_dropped (plain (λ _. usize)) yes, tt))

  module _ {M : Type 1} {𝓤 : Ura M} (𝓛 : Logic 𝓤) (at_mem : Memory → SProp 𝓤) (run : Routine → Fun 𝓤) (𝓣 : Tables 𝓤 𝓛.H) where
    open 𝓛 use {H}

    abbrev clauses : Clauses 𝓤 ended
    clauses = promised.clauses E.row 𝓛 at_mem run

    abbrev Call : Type 0
    Call = (walk_of 𝓛 ended stayed clauses).Ghost

    abbrev passed : Call → Call
    passed z = ((z.0.0, z.0.1, z.0.2, z.0.3, (mut_vals z.0.3.0, (uint_vals w64 z.0.3.1.0, tt))), z.1)

    walk : (z : Call) → z.0.3.1.0 < 2 ^ 64
        → ent 𝓤 ((walk_of 𝓛 ended stayed clauses).pre (passed z)) (WpFn 𝓤 H 𝓣.C 𝓣.Λ body ((walk_of 𝓛 ended stayed clauses).args (passed z)) ((walk_of 𝓛 ended stayed clauses).post (passed z)))
    walk z word =
        let κ = z.0.0.0 in let κ₁ = z.0.0.1.0 in let q = z.0.1.0 in let q₁ = z.0.1.1.0 in
        let rb : ℕ = z.0.3.0.ref_ptr.0 in let ro : ℕ = z.0.3.0.ref_ptr.1 in
        let row : Held E = z.0.3.0.now in let i : ℕ = z.0.3.1.0 in
        let Post : Val → SProp 𝓤 = (walk_of 𝓛 ended stayed clauses).post (passed z) in
        let w : ℕ = width E in
        let new : Held E = record { at = row.at; items = set row.items i None } in
        qed 𝓛 (((‵ (flft κ q) ⊛ ‵ (flft κ₁ q₁) ⊛ ‵ ftrue) ⊛ ‵ (owns (types_at ended.signature.params z.0.0) z.0.3 (passed z).0.4))
        ∷ (raw (fact 𝓤 (κ₁ ⊑ E.row.lives)) ⊛ raw (fact 𝓤 (i < length row.items)) ⊛ raw (fact 𝓤 (is_some (get_or row.items i None) ≡ true))) ∷ []) ∵
        move ! (1 ∷ []) $ split ! $ drop ! $ split ! $ heard ! (i < length row.items) (λ within. heard ! (is_some (get_or row.items i None) ≡ true) (λ filled.
        let found = inside (get_or row.items i None) filled in let x : el_x E = found.0 in
        split ! $ split ! $ move ! (2 ∷ []) $ fsplit ! $ fsplit3 ! $ keep ! (1 ∷ 2 ∷ 4 ∷ 5 ∷ []) $
        enter ! 𝓣.C 𝓣.Λ body (vptr rb ro ∷ vint w64 i ∷ []) _ $ alloc_all ! (λ l. pass_all ! refl ((tt, tt), ((tt, record { fits = word }), tt)) $
        let En : Env 𝓤 H = env body.locals l in
        row_opens E ! tt row rb ro (λ b o is small.
        let one_small : w < 2 ^ 63 = one_below (length row.items) w (2 ^ 63) (omega arith) small in let one_fits : w < 2 ^ 64 = omega arith in
        let up_to : i * w < 2 ^ 63 = times_below i (length row.items) w (2 ^ 63) (omega arith) small in let fits : i * w < 2 ^ 64 = omega arith in
        use1 𝓛 (some (λ (v : Val). given (Good E v) (‵ (fat full_share (elτ E) b (i * w + o) v) ⊛ ‵ (E.row.own_val x (v ∷ [])) ⊛ ‵ (others E b o row.items i)))) (value_out E 𝓛 b o row.items i within x found.1) $
        pick ! (λ v. learn ! (λ typed. split3 ! $
        -- [the place; what x owns; the other places; the pointer; the open loan; its halves; a token]
        first ! $ blocks ! $
        sets ! (of_opd ! (load ! (through ! refl (fld ! refl (stop !))) (look_in ! 3 (sub ! 0 refl (whole !))))) refl (tt, tt) $
        sets ! (bin ! (get ! refl) (size_lit ! (record { fits = one_fits })) (record { fits = fits })) refl (tt, record { fits = fits }) $
        sets ! (bin ! (get ! refl) (get ! refl) tt) refl (tt, tt) $
        sets_last ! (of_opd ! (load ! (through ! refl (stop !)) (look ! 0 refl))) refl typed $
        exec ! 𝓣.C 𝓣.Λ En rest (at_ret En Post) $ sets ! (of_opd ! (get ! refl)) refl typed $
        forget ! 0 refl $ move ! (0 ∷ 2 ∷ []) $ use2 𝓛 (‵ (lying E new b o)) (room_in E 𝓛 b o row.items i within) $
        let still : Small E new = subst (λ (n : ℕ). n * w < 2 ^ 63) (sym (length-set row.items i None)) small in
        move ! (0 ∷ 2 ∷ 3 ∷ 4 ∷ 5 ∷ []) $ row_closes E ! tt new b o rb ro is still $
        returns ! (look_at ! 0 refl) $ free_all ! refl $
        -- [a half; the loan; its token; what x owns; the other token]
        suffices ! _ (ends_at 𝓛 ended stayed clauses (passed z) v x (new, (tt, tt)) (tt, (tt, tt))) $
        says_three ! (found.1, refl, refl) $
        feq_i ! (List Val) (vptr rb ro ∷ []) (vptr rb ro ∷ []) refl $ fjoin3 ! $ nothing ! $ nothing ! $ fjoin ! $ move ! (1 ∷ 0 ∷ []) $ fjoin ! $
        move ! (1 ∷ 3 ∷ []) $ join ! $ keep ! (0 ∷ 1 ∷ 2 ∷ []) $ done !))))))

    meets : Meets 𝓛 ended.signature (WpFn 𝓤 H 𝓣.C 𝓣.Λ body) (closing 𝓛 ended clauses)
    meets =
        walk_Meets 𝓛 ended stayed (Goes-ref 𝓛 2 0 tt (plain (λ _. Row E)), (Goes-dropped 𝓛 2 (plain (λ _. usize)) yes (λ κs x f. refl), tt)) clauses (WpFn 𝓤 H 𝓣.C 𝓣.Λ body) (WpFn-mono 𝓤 H 𝓛.laws 𝓣 body)
        (walked 𝓛 ended stayed clauses (WpFn 𝓤 H 𝓣.C 𝓣.Λ body) (λ κs. (mut_vals, (uint_vals w64, tt))) (λ κs. (mut_Tells (named 0) κs.0 (Row E), (uint_Tells w64, tt)))
        (λ κs qs bounds given ghosts are. walk ((κs, qs, bounds, given, (mut_vals given.0, (uint_vals w64 given.1.0, tt))), ghosts) are.1.0.1))

pub take_spec : {M : Type 1} → stated.statement M
unfolding tables_of
take_spec 𝓤 𝓛 𝓜 𝓡 wired X L =
    let E : El = record { row = X; laws = L } in
    let 𝓣 : Tables 𝓤 𝓛.H = tables_of 𝓤 𝓛.H 𝓜 (tables 𝓤 𝓛.H 𝓜 𝓡 𝓡.env) in
    entered 𝓤 𝓛.H (triple_of 𝓛 (promised.signature X) (promised.spec X 𝓛 𝓜.mem 𝓡.returns)) 𝓣.C 𝓣.Λ (#self (args E)) (body E) (code.unfolded 𝓤 𝓛.H 𝓜 𝓡 wired (X, tt))
    (meets E 𝓛 𝓜.mem 𝓡.returns 𝓣)
