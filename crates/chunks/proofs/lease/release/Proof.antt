-- `release` makes room of the empty places, and hands the block back by the lease. Assumes `Logic`.
use mathlib.Core.Path.{◌≡◌, refl, sym, subst, ap, ◌∙◌}
use Prim.Native.Nat.{ℕ, ◌*◌, ◌<◌, ◌^◌}
use native.Mathlib.Omega.{arith}
use mathlib.Core.List.{List, [], ◌∷◌, ◌++◌}
use lib.Dec.{T}
use lib.ListN.{length, replicate, length-replicate}
use mir.Syntax.{Fn, w64, ty_unit, ty_array}
use mir.Val.{Val, vunit, vint, vptr, has_ty, WT}
use base.Logic.{id⊢, SProp, ent}
use base.Fml.{ftrue, froom, flft, Incl-trans}
use prog.Memory.{align, capped, Memory}
use prog.Capped.{capped_fits}
use seplogic.Ra.Ura.{Ura}
use mir.MapTy.{inst_fn}
use prog.Routine.{Routine}
use prog.Wp.{Env, WpFn, Tables}
use types.Logic.{Logic}
use contract.BorrowLft.{◌⊑◌}
use contract.Monad.{Fun, fact}
use contract.Running.{tables, tables_of}
use denote.RattleType.{owns}
use denote.Signature.{plain, types_at}
use denote.Steps.{heard, nothing}
use denote.Triple.Clauses.{Clauses, Ended, closing}
use denote.Triple.Spec.{Meets, triple_of}
use denote.Triple.Table.{entered}
use sound.WpLaws.{fm_of, WpFn-mono}
use types.Kit.{‵, raw, ◌⊛◌, later, given, at_ret, ◌$◌, ◌∵◌, !, qed, move, keep, drop, use1, use3, learn, split, join, rewrite, fsplit, fsplit3, fjoin, fjoin3, feq_i, feq_l, suffices, await, done}
use types.Part.{whole, sub}
use types.Run.{stop, fld, size_word, align_word, unit_lit, no_more, and_then, of_opd, bin, first, blocks, exec, returns, enter}
use types.ByLocal.{alloc_all, pass_all, free_all, look_at, get, get_in, is, sets, lands_last, env}
use denote.Exit.{yes, no}
use denote.Builtin.{usize, RefOf}
use denote.RawPtr.{Ptr, block_ptr}
use denote.Triple.Call.{calls_at_last}
use denote.Triple.Statement.{Triple}
use denote.Triple.Walked.{Stays, stay_dropped, walk_of, ends_at, Goes-dropped, walk_Meets}
use Rattle.core.specs.declared.option.Option.TheVariants.{None}
use Rattle.core.proofs.mem.Param.{El, R, elτ}
use Rattle.core.proofs.alloc.Calls.{Al, token, gives_key, Gives, at_gives, Gives-goes, Gives-Gives}
use Rattle.core.proofs.slots.Bodies.{after, knowing}
use Rattle.core.proofs.slots.Leases.{uncapped, block_ty, block_size, block_align, args, P}
use Rattle.chunks.specs.Owned.{all_places}
use Rattle.chunks.proofs.OnePlace.{Item as Cell, width, to_room}
use Rattle.chunks.proofs.Opened.{Row, Held, pointer, row_had}
use Rattle.chunks.proofs.Freeing.{no_bytes, Right, lease_had}
use Rattle.chunks.specs.contracts.lease.release as promised
use Rattle.chunks.specs.contracts.lease.release.Key.{name as #self}
use Rattle.chunks.proofs.lease.release.Statement as stated
use Rattle.chunks.proofs.lease.release.Code as code

module _ (E : El) (Z : Al) where
  abbrev body : Fn
  body = inst_fn (args E Z) code.function

  abbrev ended : Ended
  ended = promised.ended E.row Z.row Z.g Z.d Z.drops

  abbrev stayed : Stays ended.signature.params ended.kept
  stayed = (stay_dropped (RefOf (0 ∷ []) tt (plain (λ _. P E Z)) (λ _. tt)) yes, (stay_dropped (plain (λ _. Row E)) no, (stay_dropped (plain (λ _. Right E Z)) no, (stay_dropped (plain (λ _. usize)) yes, tt))))

  module _ {M : Type 1} {𝓤 : Ura M} (𝓛 : Logic 𝓤) (at_mem : Memory → SProp 𝓤) (run : Routine → Fun 𝓤) (𝓣 : Tables 𝓤 𝓛.H) (deallocate : Triple 𝓤 (𝓣.C (gives_key Z)) (Gives Z 𝓛 at_mem run)) where
    open 𝓛 use {H}

    abbrev clauses : Clauses 𝓤 ended
    clauses = promised.clauses E.row Z.row Z.g Z.d Z.drops 𝓛 at_mem run

    abbrev Call : Type 0
    Call = (walk_of 𝓛 ended stayed clauses).Ghost

    abbrev Runs : Call → Type 1
    Runs call = ent 𝓤 ((walk_of 𝓛 ended stayed clauses).pre call) (WpFn 𝓤 H 𝓣.C 𝓣.Λ body ((walk_of 𝓛 ended stayed clauses).args call) ((walk_of 𝓛 ended stayed clauses).post call))

    walk : (z : Call) → z.0.4.1.1.1.0 ≡ vint w64 z.0.3.1.1.1.0 ∷ [] → z.0.3.1.1.1.0 < 2 ^ 64 → Runs z
    walk z word_is word =
        let κ = z.0.0.0 in let κ₁ = z.0.0.1.0 in let κ₂ = z.0.0.1.1.0 in let q = z.0.1.0 in let q₁ = z.0.1.1.0 in let q₂ = z.0.1.1.1.0 in
        let handle : ℕ × ℕ = z.0.3.0.ref_ptr in let heap : Z.row.Denot = z.0.3.0.now in
        let row : Held E = z.0.3.1.0 in let lease : (Right E Z).Denot = z.0.3.1.1.0 in let n : ℕ = z.0.3.1.1.1.0 in let words = z.0.4 in
        let Post : Val → SProp 𝓤 = (walk_of 𝓛 ended stayed clauses).post z in
        let Tied : Type 0 = (lease.at ≡ row.at) × (lease.count ≡ n) in
        let Empty : Type 0 = row.items ≡ replicate {A = Cell E} n None in
        let w : ℕ = width E in let al : ℕ = capped (align (elτ E)) in
        qed 𝓛 (((‵ (flft κ q) ⊛ ‵ (flft κ₁ q₁) ⊛ ‵ (flft κ₂ q₂) ⊛ ‵ ftrue) ⊛ ‵ (owns (types_at ended.signature.params z.0.0) z.0.3 words))
        ∷ (raw (fact 𝓤 (κ₁ ⊑ E.row.lives)) ⊛ raw (fact 𝓤 (κ₂ ⊑ Z.row.lives)) ⊛ raw (fact 𝓤 (lease.heap ≡ heap)) ⊛ raw (fact 𝓤 Tied) ⊛ raw (fact 𝓤 Empty)) ∷ []) ∵
        move ! (1 ∷ []) $ split ! $ drop ! $ split ! $ heard ! (κ₂ ⊑ Z.row.lives) (λ outlives. split ! $ heard ! (lease.heap ≡ heap) (λ same_heap. split ! $ heard ! Tied (λ tied. heard ! Empty (λ empty.
        split ! $ split ! $ move ! (2 ∷ []) $ fsplit3 ! $ fsplit ! $ feq_l ! (λ handle_is. move ! (1 ∷ []) $ row_had E ! row words.1.0 (λ b o at_row row_is small.
        let at_lease : lease.at ≡ block_ptr b o = tied.0 ∙ at_row in
        let small' : n * w < 2 ^ 63 = subst (λ (k : ℕ). k * w < 2 ^ 63) (ap length empty ∙ length-replicate {A = Cell E} n None) small in let size_fits : n * w < 2 ^ 64 = omega arith in
        rewrite ! 0 (λ (items : List (Cell E)). ‵ (all_places (R E) items (block_ptr b o))) empty refl $
        use1 𝓛 (‵ (froom (ty_array (elτ E) n) b o)) (to_room E 𝓛 b n o) $ use1 𝓛 (‵ (froom (block_ty E n) b o)) (𝓛.laws.room-raw (ty_array (elτ E) n) b o) $
        move ! (2 ∷ []) $ fsplit3 ! $ lease_had E Z ! lease words.1.1.0 (λ lease_is.
        rewrite ! 0 (λ (p : Ptr). ‵ (token Z lease.heap (block_ty E lease.count) p)) at_lease refl $
        rewrite ! 0 (λ (k : ℕ). ‵ (token Z lease.heap (block_ty E k) (block_ptr b o))) tied.1 refl $
        rewrite ! 0 (λ (a : Z.row.Denot). ‵ (token Z a (block_ty E n) (block_ptr b o))) same_heap refl $ keep ! (3 ∷ 0 ∷ 4 ∷ 5 ∷ 6 ∷ []) $
        -- [the room; the right to free it; the handle; its token; the other tokens]
        let us : List Val = vptr handle.0 handle.1 ∷ pointer (block_ptr b o) ∷ no_bytes ∷ vint w64 n ∷ [] in
        let Run : List Val → SProp 𝓤 = λ ws. WpFn 𝓤 H 𝓣.C 𝓣.Λ body ws Post in
        suffices ! (Run us) (subst (λ (ws : List Val). ent 𝓤 (Run us) (Run ws)) (sym (λ k. handle_is k ++ (row_is k ++ (lease_is k ++ (word_is k ++ []))))) (id⊢ 𝓤 (Run us))) $
        enter ! 𝓣.C 𝓣.Λ body us Post $ alloc_all ! (λ l. pass_all ! refl ((tt, tt), ((tt, (tt, tt)), ((tt, (tt, tt)), ((tt, record { fits = word }), tt)))) $
        let En : Env 𝓤 H = env body.locals l in
        let freed_by : (Gives Z 𝓛 at_mem run).Ghost = at_gives Z 𝓛 at_mem run κ q handle heap b o (n * w) al (block_ty E n) in
        sets ! (of_opd ! (get_in ! (fld ! refl (stop !)) (sub ! 0 refl (whole !)))) refl (tt, tt) $
        first ! $ blocks ! $ sets ! (of_opd ! (get ! refl)) refl (tt, tt) $
        sets ! (is ! (bin ! (get ! refl) (size_word !) (record { fits = subst (λ (k : ℕ). k < 2 ^ 64) (sym (uncapped n w size_fits)) size_fits })) (ap (vint w64) (uncapped n w size_fits))) refl (tt, record { fits = size_fits }) $
        move ! (2 ∷ 3 ∷ []) $ join ! $ move ! (1 ∷ 2 ∷ 0 ∷ []) $ use3 𝓛 (raw ((Gives Z 𝓛 at_mem run).pre freed_by))
        (Gives-goes Z 𝓛 at_mem run κ q handle heap (Incl-trans z.0.2.0 outlives) b o (n * w) al (block_ty E n) (block_size E n size_fits) (block_align E n) size_fits (capped_fits (align (elτ E)))) $
        calls_at_last ! (fm_of 𝓤 H 𝓛.laws 𝓣) (Gives Z 𝓛 at_mem run) deallocate freed_by (and_then ! (get ! refl) (and_then ! (get ! refl) (and_then ! (get ! refl) (and_then ! (align_word !) (no_more !))))) (λ v.
        use1 𝓛 (later (given (v ≡ vunit) (‵ (flft κ q)))) (Gives-Gives Z 𝓛 at_mem run κ q handle heap b o (n * w) al (block_ty E n) v) $ await ! tt $ learn ! (λ e.
        lands_last ! refl (subst (λ (u : Val). T (has_ty ty_unit u) × WT u) (sym e) (tt, tt)) $ exec ! 𝓣.C 𝓣.Λ En (after 2 body.body) (at_ret En Post) $
        sets ! (of_opd ! (unit_lit !)) refl (tt, tt) $ returns ! (look_at ! 0 refl) $ free_all ! refl $
        suffices ! _ (ends_at 𝓛 ended stayed clauses z vunit tt (tt, (tt, (tt, (tt, tt)))) (tt, (tt, (tt, (tt, tt))))) $
        join ! $ feq_i ! (List Val) (vunit ∷ []) (vunit ∷ []) refl $ nothing ! $ nothing ! $ fjoin ! $ nothing ! $ fjoin ! $ nothing ! $ nothing ! $ fjoin3 ! $ join ! $ move ! (1 ∷ 0 ∷ []) $ join ! $
        nothing ! $ keep ! (1 ∷ 0 ∷ []) $ done !))))))))))

    meets : Meets 𝓛 ended.signature (WpFn 𝓤 H 𝓣.C 𝓣.Λ body) (closing 𝓛 ended clauses)
    meets =
        walk_Meets 𝓛 ended stayed (
          Goes-dropped 𝓛 3 (RefOf (0 ∷ []) tt (plain (λ _. P E Z)) (λ _. tt)) yes (λ κs x f. refl),
          (Goes-dropped 𝓛 3 (plain (λ _. Row E)) no (λ κs x f. refl), (Goes-dropped 𝓛 3 (plain (λ _. Right E Z)) no (λ κs x f. refl), (Goes-dropped 𝓛 3 (plain (λ _. usize)) yes (λ κs x f. refl), tt))),
        ) clauses
        (WpFn 𝓤 H 𝓣.C 𝓣.Λ body) (WpFn-mono 𝓤 H 𝓛.laws 𝓣 body)
        (λ z. knowing 𝓛 ended stayed clauses (WpFn 𝓤 H 𝓣.C 𝓣.Λ body) z (λ are. walk z are.1.1.1.0.0 are.1.1.1.0.1))

pub release_spec : {M : Type 1} → stated.statement M
unfolding tables_of
release_spec 𝓤 𝓛 𝓜 𝓡 wired X Y LX LY g d dd met md =
    let E : El = record { row = X; laws = LX } in let Z : Al = record { row = Y; laws = LY; g = g; d = d; drops = dd } in
    let 𝓣 : Tables 𝓤 𝓛.H = tables_of 𝓤 𝓛.H 𝓜 (tables 𝓤 𝓛.H 𝓜 𝓡 𝓡.env) in
    entered 𝓤 𝓛.H (triple_of 𝓛 (ended E Z).signature (promised.spec X Y g d dd 𝓛 𝓜.mem 𝓡.returns)) 𝓣.C 𝓣.Λ (#self (args E Z)) (body E Z) (code.unfolded 𝓤 𝓛.H 𝓜 𝓡 wired (X, (Y, tt)) d dd)
    (meets E Z 𝓛 𝓜.mem 𝓡.returns 𝓣 (met.deallocate dd))
