use Rattle.std.proofs.Common.{arith, ◌≡◌, ◌+◌, length, sym, ◌∙◌, Ok, Err}
use Rattle.std.proofs.lemmas.Result.{err_from_is_err_and}
use Rattle.wkt.specs.Tokens.{tokens}
use Rattle.wkt.specs.Reading.{pair_at, more_at}
use Rattle.wkt.proofs.RingLemmas.{goes_on, ends, no_pair, no_more}
use Rattle.wkt.proofs.ring.ring.Goals as goal

pub returns-in_err-point-clause-gives : goal.returns-in_err-point-clause-gives
returns-in_err-point-clause-gives c =
    let p = err_from_is_err_and c.from_residual.result c.from_residual.ensures.1 in
    let pair : pair_at (c.args.text.at + length c.args.text.bytes.now) (tokens c.pairs.text.at c.pairs.text.bytes.now) ≡ Err c.in_err-point.field-0.0 = rw (sym c.pairs.invariant.place) c.in_err-point.ensures.gives in
    rw (p.1, p.2) (no_pair _ c.pairs.listed.items _ _ _ pair c.pairs.invariant.reading)

pub returns-in_err-is_more-clause-gives : goal.returns-in_err-is_more-clause-gives
returns-in_err-is_more-clause-gives c =
    let p = err_from_is_err_and c.from_residual-in_err-is_more.result c.from_residual-in_err-is_more.ensures.1 in
    let end = c.args.text.at + length c.args.text.bytes.now in
    let pair : pair_at end (tokens c.pairs.text.at c.pairs.text.bytes.now) ≡ Ok (c.in_ok-point.point, tokens c.in_ok-point.after.at c.in_ok-point.after.bytes.now) = rw (sym c.pairs.invariant.place) c.in_ok-point.ensures.gives in
    let place : c.in_ok-point.after.at + length c.in_ok-point.after.bytes.now ≡ end = c.in_ok-point.ensures.rest ∙ c.pairs.invariant.place in
    let more : more_at end (tokens c.in_ok-point.after.at c.in_ok-point.after.bytes.now) ≡ Err c.in_err-is_more.field-0.0 = rw (sym place) c.in_err-is_more.ensures.gives in
    rw (p.1, p.2) (no_more _ c.pairs.listed.items _ _ _ _ _ pair more c.pairs.invariant.reading)

pub returns-then-not-is_more-clause-gives : goal.returns-then-not-is_more-clause-gives
returns-then-not-is_more-clause-gives c =
    let end = c.args.text.at + length c.args.text.bytes.now in
    let pair : pair_at end (tokens c.pairs.text.at c.pairs.text.bytes.now) ≡ Ok (c.in_ok-point.point, tokens c.in_ok-point.after.at c.in_ok-point.after.bytes.now) = rw (sym c.pairs.invariant.place) c.in_ok-point.ensures.gives in
    let place : c.in_ok-point.after.at + length c.in_ok-point.after.bytes.now ≡ end = c.in_ok-point.ensures.rest ∙ c.pairs.invariant.place in
    let more = rw (c.if-not-is_more.true, place) at c.in_ok-is_more.ensures.gives in
    ends _ c.pairs.listed.items _ _ _ _ _ _ pair more c.keep.ensures c.pairs.invariant.reading

pub pairs-smaller : goal.pairs-smaller
pairs-smaller c = omega (arith, c.in_ok-point.ensures.shorter, c.in_ok-is_more.ensures.shorter)

pub pairs-preserved : goal.pairs-preserved
pairs-preserved c =
    let end = c.args.text.at + length c.args.text.bytes.now in
    let pair : pair_at end (tokens c.pairs.text.at c.pairs.text.bytes.now) ≡ Ok (c.in_ok-point.point, tokens c.in_ok-point.after.at c.in_ok-point.after.bytes.now) = rw (sym c.pairs.invariant.place) c.in_ok-point.ensures.gives in
    let place : c.in_ok-point.after.at + length c.in_ok-point.after.bytes.now ≡ end = c.in_ok-point.ensures.rest ∙ c.pairs.invariant.place in
    let more = rw (c.if-not-is_more.false, place) at c.in_ok-is_more.ensures.gives in
    record {
      place = c.in_ok-is_more.ensures.rest ∙ place;
      reading = goes_on _ c.pairs.listed.items _ _ _ _ _ _ pair more c.keep.ensures c.pairs.invariant.reading;
    }
