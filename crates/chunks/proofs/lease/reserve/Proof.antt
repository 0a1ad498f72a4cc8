-- `reserve` asks the allocator for room, and makes a row of empty places of it and the right to free
-- it. Assumes `Logic`.
use mathlib.Core.Path.{◌≡◌, refl, sym, subst, ap}
use mathlib.Core.Bool.{true, false}
use Prim.Native.Nat.{ℕ, ◌*◌, ◌<◌, ◌^◌}
use native.Mathlib.Omega.{arith}
use mathlib.Core.List.{List, [], ◌∷◌}
use lib.Dec.{lit<}
use lib.ListN.{replicate, length-replicate}
use mir.Syntax.{Fn, Body, w64, named, ty_array}
use mir.Val.{Val, vint, vptr, vstruct, vcons, vnil, WT}
use base.Logic.{emp, sep, SProp, ent}
use base.Fml.{ftrue, froom, flft, Incl-trans}
use prog.Memory.{align, capped, Memory}
use prog.Capped.{capped_fits}
use prog.Wp.{Wp, after_seq, at_return, Env, WpFn, Tables}
use types.Logic.{Logic, sem}
use seplogic.Ra.Ura.{Ura}
use mir.MapTy.{inst_fn}
use prog.Routine.{Routine}
use contract.BorrowLft.{◌⊑◌}
use contract.Monad.{Fun, fact}
use contract.Running.{tables, tables_of}
use denote.RattleType.{RattleType, Valss, owns}
use denote.Plain.{uint_vals, uint_Tells}
use denote.Signature.{plain, types_at}
use denote.Laws.{Is}
use denote.Steps.{heard, nothing, owned}
use denote.Triple.Clauses.{Clauses, Ended, closing}
use denote.Triple.Spec.{Meets, triple_of}
use denote.Triple.Table.{entered}
use sound.WpLaws.{fm_of, WpFn-mono}
use types.Kit.{Post as After, any_q, ‵, raw, ◌⊛◌, later, at_ret, ◌$◌, ◌∵◌, !, qed, by, move, keep, drop, use0, use1, use2, split, join, fsplit, fjoin, fjoin3, fpack, feq_i, suffices, await, done}
use types.Part.{whole, agg}
use types.Match.{live, vrt, in_variant}
use types.Run.{stop, fld, lit, size_word, align_word, no_more, and_then, of_opd, bin, first, switches_on, exec, returns, enter}
use types.ByLocal.{alloc_all, pass_all, free_all, look_at, get, get_in, get_tag, is, sets, sets_last, lands_as, env}
use denote.Exit.{yes}
use denote.Builtin.{usize, RefOf}
use denote.RawPtr.{block_ptr}
use denote.Ref.{shr_vals, shr_Tells}
use denote.Struct.Struct.{Struct, Struct-Makes, within}
use denote.Struct.Declared as Declared
use denote.Struct.Tuple.{Tuple, tuple_type}
use denote.Triple.Call.{calls_at}
use denote.Triple.Entry.{alive}
use denote.Triple.Statement.{Triple}
use denote.Triple.Walked.{says, Stays, stay_dropped, walk_of, ends_at, walked, Goes-dropped, walk_Meets}
use Rattle.core.specs.Result.{IfOk}
use Rattle.core.specs.declared.option.Option.TheVariants.{None}
use Rattle.core.specs.declared.result.Result.TheVariants.{Ok, Err}
use Rattle.core.specs.contracts.result.Result as Answers
use Rattle.core.specs.contracts.alloc.AllocError as Refusal
use Rattle.core.proofs.mem.Param.{El, R, el_x, elτ}
use Rattle.core.proofs.alloc.Calls.{Al, Answer-typed, takes_key, Takes, at_takes, Answered, Takes-goes, Takes-gives, answers}
use Rattle.core.proofs.once.Made.{ok_of, err_of}
use Rattle.core.proofs.slots.Bodies.{after, head, arm_body}
use Rattle.core.proofs.slots.Leases.{uncapped, block_ty, block_size, block_align, args, P}
use Rattle.chunks.specs.Owned.{FitsBlock}
use Rattle.chunks.proofs.OnePlace.{Item, width, of_room}
use Rattle.chunks.proofs.Opened.{Row, Held, Small, lying, pointer, row_made}
use Rattle.chunks.proofs.Freeing.{no_bytes, Right, right_to, lease_made}
use Rattle.chunks.specs.contracts.lease.reserve as promised
use Rattle.chunks.specs.contracts.lease.reserve.Key.{name as #self}
use Rattle.chunks.proofs.lease.reserve.Statement as stated
use Rattle.chunks.proofs.lease.reserve.Code as code

-- where memory is refused, an `AllocError`, which owns nothing
no_memory : {M : Type 1} {𝓤 : Ura M} (𝓛 : Logic 𝓤) (X : RattleType) → ent 𝓤 (emp 𝓤) (sem 𝓛 ((Answers.the_row X Refusal.the_row).own_val (Err (record {})) (live 1 (vcons (vstruct vnil) vnil) ∷ [])))
no_memory 𝓛 X =
    let v : Val = vstruct vnil in
    let Empty = Struct (Declared.shape Refusal.the_type) in
    qed 𝓛 [] ∵ owned ! Empty (Is Empty) (Struct-Makes 𝓛 (Declared.shape Refusal.the_type) tt) tt (v ∷ []) (tt, (refl, tt)) $
    by ! (err_of 𝓛 X Refusal.the_row (record {}) v)

module _ (E : El) (Z : Al) where
  abbrev body : Fn
  body = inst_fn (args E Z) code.function

  abbrev ended : Ended
  ended = promised.ended E.row Z.row Z.g Z.d Z.drops

  abbrev stayed : Stays ended.signature.params ended.kept
  stayed = (stay_dropped (RefOf (0 ∷ []) tt (plain (λ _. P E Z)) (λ _. tt)) yes, (stay_dropped (plain (λ _. usize)) yes, tt))

  module _ {M : Type 1} {𝓤 : Ura M} (𝓛 : Logic 𝓤) (at_mem : Memory → SProp 𝓤) (run : Routine → Fun 𝓤) (𝓣 : Tables 𝓤 𝓛.H) (allocate : Triple 𝓤 (𝓣.C (takes_key Z)) (Takes Z 𝓛 at_mem run)) where
    open 𝓛 use {H}

    abbrev clauses : Clauses 𝓤 ended
    clauses = promised.clauses E.row Z.row Z.g Z.d Z.drops 𝓛 at_mem run

    abbrev Call : Type 0
    Call = (walk_of 𝓛 ended stayed clauses).Ghost

    abbrev Runs : Call → Type 1
    Runs call = ent 𝓤 ((walk_of 𝓛 ended stayed clauses).pre call) (WpFn 𝓤 H 𝓣.C 𝓣.Λ body ((walk_of 𝓛 ended stayed clauses).args call) ((walk_of 𝓛 ended stayed clauses).post call))

    abbrev Both : RattleType
    Both = Tuple (Row E ∷ Right E Z ∷ [])

    abbrev Out : RattleType
    Out = Answers.the_row Both Refusal.the_row

    abbrev passed : Call → Call
    passed z = ((z.0.0, z.0.1, z.0.2, z.0.3, (shr_vals z.0.3.0, (uint_vals w64 z.0.3.1.0, tt))), z.1)

    leaves : (z : Call) (answer : Out.Denot) (v : Val)
        → IfOk answer (λ made. (made.0.items ≡ replicate {A = Item E} z.0.3.1.0 None) × (made.1.at ≡ made.0.at) × (made.1.count ≡ z.0.3.1.0) × (made.1.heap ≡ z.0.3.0.now))
        → ent 𝓤 (sep 𝓤 (sem 𝓛 (Out.own_val answer (v ∷ []))) (alive 𝓛 ended.signature z.0.0 z.0.1)) ((walk_of 𝓛 ended stayed clauses).post (passed z) v)
    leaves z answer v said =
        qed 𝓛 (‵ (Out.own_val answer (v ∷ [])) ∷ raw (alive 𝓛 ended.signature z.0.0 z.0.1) ∷ []) ∵
        suffices ! _ (ends_at 𝓛 ended stayed clauses (passed z) v answer (tt, (tt, tt)) (tt, (tt, tt))) $ says ! said $ nothing ! $ nothing ! $ nothing ! $ fjoin3 ! $ move ! (2 ∷ 0 ∷ 1 ∷ []) $ done !

    walk : (z : Call) → z.0.3.1.0 < 2 ^ 64 → Runs (passed z)
    walk z word =
        let κ = z.0.0.0 in let κ₁ = z.0.0.1.0 in let κ₂ = z.0.0.1.1.0 in
        let q = z.0.1.0 in let q₁ = z.0.1.1.0 in let q₂ = z.0.1.1.1.0 in
        let handle : ℕ × ℕ = z.0.3.0.ref_ptr in let heap : Z.row.Denot = z.0.3.0.now in let n : ℕ = z.0.3.1.0 in
        let Post : Val → SProp 𝓤 = (walk_of 𝓛 ended stayed clauses).post (passed z) in
        let w : ℕ = width E in let al : ℕ = capped (align (elτ E)) in
        qed 𝓛 (((‵ (flft κ q) ⊛ ‵ (flft κ₁ q₁) ⊛ ‵ (flft κ₂ q₂) ⊛ ‵ ftrue) ⊛ ‵ (owns (types_at ended.signature.params z.0.0) z.0.3 (passed z).0.4))
        ∷ (raw (fact 𝓤 (κ₁ ⊑ E.row.lives)) ⊛ raw (fact 𝓤 (κ₂ ⊑ Z.row.lives)) ⊛ raw (fact 𝓤 (FitsBlock (R E) n))) ∷ []) ∵
        move ! (1 ∷ []) $ split ! $ drop ! $ split ! $ heard ! (κ₂ ⊑ Z.row.lives) (λ outlives. heard ! (FitsBlock (R E) n) (λ fits.
        let small : n * w < 2 ^ 63 = fits.0 in let size_fits : n * w < 2 ^ 64 = omega arith in
        split ! $ split ! $ move ! (2 ∷ []) $ fsplit ! $ fsplit ! $ keep ! (1 ∷ 3 ∷ 4 ∷ []) $
        enter ! 𝓣.C 𝓣.Λ body (vptr handle.0 handle.1 ∷ vint w64 n ∷ []) _ $ alloc_all ! (λ l. pass_all ! refl ((tt, tt), ((tt, record { fits = word }), tt)) $
        let En : Env 𝓤 H = env body.locals l in
        let arms : Body = head (after 2 body.body) in
        let Then : After 𝓤 H = any_q (after_seq 𝓤 H (Wp 𝓤 H 𝓣.C 𝓣.Λ En (after 3 body.body) (at_return 𝓤 H En Post)) (at_return 𝓤 H En Post)) in
        let asked : (Takes Z 𝓛 at_mem run).Ghost = at_takes Z 𝓛 at_mem run κ q handle heap (n * w) al (block_ty E n) in
        sets ! (is ! (bin ! (get ! refl) (size_word !) (record { fits = subst (λ (k : ℕ). k < 2 ^ 64) (sym (uncapped n w size_fits)) size_fits })) (ap (vint w64) (uncapped n w size_fits))) refl (tt, record { fits = size_fits }) $
        use2 𝓛 (raw ((Takes Z 𝓛 at_mem run).pre asked))
        (Takes-goes Z 𝓛 at_mem run κ q handle heap (Incl-trans z.0.2.0 outlives) (n * w) al (block_ty E n) (block_size E n size_fits) (block_align E n) size_fits (capped_fits (align (elτ E)))) $
        calls_at ! (fm_of 𝓤 H 𝓛.laws 𝓣) (Takes Z 𝓛 at_mem run) allocate asked (and_then ! (get ! refl) (and_then ! (get ! refl) (and_then ! (align_word !) (no_more !)))) (λ v.
        use1 𝓛 (later (raw (Answered Z 𝓛 at_mem run heap (block_ty E n) v) ⊛ ‵ (flft κ q))) (Takes-gives Z 𝓛 at_mem run κ q handle heap (n * w) al (block_ty E n) v) $ await ! tt $ split ! $
        move ! (1 ∷ 2 ∷ []) $ join ! $ move ! (1 ∷ []) $ answers Z ! at_mem run heap (block_ty E n) v
        (λ b o e.
        let new : Held E = record { at = block_ptr b o; items = replicate n None } in
        let lease : (Right E Z).Denot = right_to E Z heap b o n in
        let pair : Val = vstruct (vcons (pointer (block_ptr b o)) (vcons no_bytes vnil)) in
        let all : WT (live 0 (vcons pair vnil)) = (record { fits = lit< tt }, (((tt, tt), ((tt, tt), tt)), tt)) in
        lands_as ! e refl (Answer-typed true b o) $ first ! $ switches_on ! (get_tag ! (vrt ! refl (fld ! refl (stop !))) (whole !)) $ exec ! 𝓣.C 𝓣.Λ En (arm_body 0 arms) Then $
        sets ! (of_opd ! (get_in ! (vrt ! refl (fld ! refl (stop !))) (in_variant ! 0 0 refl refl (whole !)))) refl (tt, tt) $ sets ! (of_opd ! (get ! refl)) refl (tt, tt) $
        sets ! (agg ! (no_more !)) refl (tt, tt) $ sets ! (agg ! (and_then ! (get ! refl) (no_more !))) refl (tt, (tt, tt)) $
        sets ! (agg ! (and_then ! (get ! refl) (no_more !))) refl (tt, (tt, tt)) $
        sets ! (agg ! (and_then ! (get ! refl) (and_then ! (get ! refl) (no_more !)))) refl (tt, ((tt, tt), ((tt, tt), tt))) $
        sets_last ! (agg ! (and_then ! (lit ! tt) (and_then ! (get ! refl) (no_more !)))) refl (tt, all) $
        exec ! 𝓣.C 𝓣.Λ En (after 3 body.body) (at_ret En Post) $ sets ! (of_opd ! (get ! refl)) refl (tt, all) $
        let still : Small E new = subst (λ (k : ℕ). k * w < 2 ^ 63) (sym (length-replicate {A = Item E} n None)) small in
        use1 𝓛 (‵ (froom (ty_array (elτ E) n) b o)) (𝓛.laws.raw-room (ty_array (elτ E) n) b o) $ use1 𝓛 (‵ (lying E new b o)) (of_room E 𝓛 b n o) $ row_made E ! new b o refl still $
        move ! (1 ∷ []) $ lease_made E Z ! heap b o n $ nothing ! $ move ! (2 ∷ 1 ∷ 0 ∷ []) $ fjoin3 ! $ feq_i ! (List Val) (pair ∷ []) (pair ∷ []) refl $ fjoin ! $
        fpack ! (Valss (Row E ∷ Right E Z ∷ [])) (within (Declared.shape (tuple_type (Row E ∷ Right E Z ∷ []))) (new, (lease, tt)) (pair ∷ [])) (pointer (block_ptr b o) ∷ [], (no_bytes ∷ [], tt)) $
        use1 𝓛 (‵ (Out.own_val (Ok (new, lease)) (live 0 (vcons pair vnil) ∷ []))) (ok_of 𝓛 Both Refusal.the_row (new, lease) pair) $
        returns ! (look_at ! 0 refl) $ free_all ! refl $ keep ! (0 ∷ 1 ∷ []) $ by ! (leaves z (Ok (new, lease)) (live 0 (vcons pair vnil)) (refl, refl, refl, refl)))
        (λ e.
        let none : WT (live 1 (vcons (vstruct vnil) vnil)) = (record { fits = lit< tt }, (tt, tt)) in
        lands_as ! e refl (Answer-typed false 0 0) $ first ! $ switches_on ! (get_tag ! (vrt ! refl (fld ! refl (stop !))) (whole !)) $ exec ! 𝓣.C 𝓣.Λ En (arm_body 1 arms) Then $
        sets ! (of_opd ! (get_in ! (vrt ! refl (fld ! refl (stop !))) (in_variant ! 1 0 refl refl (whole !)))) refl (tt, tt) $
        sets_last ! (agg ! (and_then ! (lit ! tt) (and_then ! (get ! refl) (no_more !)))) refl (tt, none) $
        exec ! 𝓣.C 𝓣.Λ En (after 3 body.body) (at_ret En Post) $ sets ! (of_opd ! (get ! refl)) refl (tt, none) $
        use0 𝓛 (‵ (Out.own_val (Err (record {})) (live 1 (vcons (vstruct vnil) vnil) ∷ []))) (no_memory 𝓛 Both) $
        returns ! (look_at ! 0 refl) $ free_all ! refl $ keep ! (0 ∷ 1 ∷ []) $ by ! (leaves z (Err (record {})) (live 1 (vcons (vstruct vnil) vnil)) tt))))))

    meets : Meets 𝓛 ended.signature (WpFn 𝓤 H 𝓣.C 𝓣.Λ body) (closing 𝓛 ended clauses)
    meets =
        walk_Meets 𝓛 ended stayed (
          Goes-dropped 𝓛 3 (RefOf (0 ∷ []) tt (plain (λ _. P E Z)) (λ _. tt)) yes (λ κs x f. refl),
          (Goes-dropped 𝓛 3 (plain (λ _. usize)) yes (λ κs x f. refl), tt),
        ) clauses (WpFn 𝓤 H 𝓣.C 𝓣.Λ body) (WpFn-mono 𝓤 H 𝓛.laws 𝓣 body)
        (walked 𝓛 ended stayed clauses (WpFn 𝓤 H 𝓣.C 𝓣.Λ body) (λ κs. (shr_vals, (uint_vals w64, tt))) (λ κs. (shr_Tells (named 0) κs.0 (P E Z), (uint_Tells w64, tt)))
        (λ κs qs bounds given ghosts are. walk ((κs, qs, bounds, given, (shr_vals given.0, (uint_vals w64 given.1.0, tt))), ghosts) are.1.0.1))

pub reserve_spec : {M : Type 1} → stated.statement M
unfolding tables_of
reserve_spec 𝓤 𝓛 𝓜 𝓡 wired X Y LX LY g d dd met md =
    let E : El = record { row = X; laws = LX } in let Z : Al = record { row = Y; laws = LY; g = g; d = d; drops = dd } in
    let 𝓣 : Tables 𝓤 𝓛.H = tables_of 𝓤 𝓛.H 𝓜 (tables 𝓤 𝓛.H 𝓜 𝓡 𝓡.env) in
    entered 𝓤 𝓛.H (triple_of 𝓛 (ended E Z).signature (promised.spec X Y g d dd 𝓛 𝓜.mem 𝓡.returns)) 𝓣.C 𝓣.Λ (#self (args E Z)) (body E Z) (code.unfolded 𝓤 𝓛.H 𝓜 𝓡 wired (X, (Y, tt)) d dd)
    (meets E Z 𝓛 𝓜.mem 𝓡.returns 𝓣 (met.allocate dd))
