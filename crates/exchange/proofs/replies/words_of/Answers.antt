use Rattle.std.proofs.Common.{ap, sym, ◌∙◌}
use Rattle.std.specs.Result.{result_ok}
use Rattle.features.specs.Names.{name_of}
use Rattle.exchange.proofs.RowLemmas.{at_class, at_id, at_office, at_version, behind_id, behind_one, behind_version, both_some, name_again, none_some, not_empty, one_some, same_feature, shape_again}
use Rattle.exchange.proofs.replies.words_of.Goals as goal

pub returns-in_err-id : goal.returns-in_err-id
returns-in_err-id c f w e =
    none_some _ (c.in_err-id.ensures f.id (behind_id f) w.id (at_id _ f w e))

pub returns-in_err-version : goal.returns-in_err-version
returns-in_err-version c f w e =
    let first = both_some _ _ _ _ (c.in_ok-id.ensures f.id (behind_id f) w.id (at_id _ f w e)) in
    none_some _ (c.in_err-version.ensures f.version (behind_version f) w.version (at_version _ f w first.1))

pub returns-in_err-office : goal.returns-in_err-office
returns-in_err-office c f w e =
    let first = both_some _ _ _ _ (c.in_ok-id.ensures f.id (behind_id f) w.id (at_id _ f w e)) in
    let second = both_some _ _ _ _ (c.in_ok-version.ensures f.version (behind_version f) w.version (at_version _ f w first.1)) in
    none_some _ (c.in_err-office.ensures ∙ at_office _ f w second.1)

pub returns-in_err-class : goal.returns-in_err-class
returns-in_err-class c f w e =
    let first = both_some _ _ _ _ (c.in_ok-id.ensures f.id (behind_id f) w.id (at_id _ f w e)) in
    let second = both_some _ _ _ _ (c.in_ok-version.ensures f.version (behind_version f) w.version (at_version _ f w first.1)) in
    let third = both_some _ _ _ _ (c.in_ok-office.ensures ∙ at_office _ f w second.1) in
    none_some _ (c.in_err-class.ensures ∙ at_class _ f w third.1)

pub returns-in_err-shape : goal.returns-in_err-shape
returns-in_err-shape c f w e =
    let first = both_some _ _ _ _ (c.in_ok-id.ensures f.id (behind_id f) w.id (at_id _ f w e)) in
    let second = both_some _ _ _ _ (c.in_ok-version.ensures f.version (behind_version f) w.version (at_version _ f w first.1)) in
    let third = both_some _ _ _ _ (c.in_ok-office.ensures ∙ at_office _ f w second.1) in
    let fourth = both_some _ _ _ _ (c.in_ok-class.ensures ∙ at_class _ f w third.1) in
    not_empty _ _ _ fourth.1 c.in_err-shape.ensures.cases

pub returns-in_err-new : goal.returns-in_err-new
returns-in_err-new c f w e =
    let first = both_some _ _ _ _ (c.in_ok-id.ensures f.id (behind_id f) w.id (at_id _ f w e)) in
    let second = both_some _ _ _ _ (c.in_ok-version.ensures f.version (behind_version f) w.version (at_version _ f w first.1)) in
    let third = both_some _ _ _ _ (c.in_ok-office.ensures ∙ at_office _ f w second.1) in
    let fourth = both_some _ _ _ _ (c.in_ok-class.ensures ∙ at_class _ f w third.1) in
    none_some _ (c.in_err-new.ensures ∙ (ap name_of third.0 ∙ name_again f.office w.office))

pub returns-in_err-new-2 : goal.returns-in_err-new-2
returns-in_err-new-2 c f w e =
    let first = both_some _ _ _ _ (c.in_ok-id.ensures f.id (behind_id f) w.id (at_id _ f w e)) in
    let second = both_some _ _ _ _ (c.in_ok-version.ensures f.version (behind_version f) w.version (at_version _ f w first.1)) in
    let third = both_some _ _ _ _ (c.in_ok-office.ensures ∙ at_office _ f w second.1) in
    let fourth = both_some _ _ _ _ (c.in_ok-class.ensures ∙ at_class _ f w third.1) in
    none_some _ (c.in_err-new-2.ensures ∙ (ap name_of fourth.0 ∙ name_again f.class w.class))

pub returns-in_err-ok : goal.returns-in_err-ok
returns-in_err-ok c f w e =
    let first = both_some _ _ _ _ (c.in_ok-id.ensures f.id (behind_id f) w.id (at_id _ f w e)) in
    let second = both_some _ _ _ _ (c.in_ok-version.ensures f.version (behind_version f) w.version (at_version _ f w first.1)) in
    let third = both_some _ _ _ _ (c.in_ok-office.ensures ∙ at_office _ f w second.1) in
    let fourth = both_some _ _ _ _ (c.in_ok-class.ensures ∙ at_class _ f w third.1) in
    let rest = behind_one _ _ _ _ (sym c.in_ok-shape.ensures.cases.0 ∙ fourth.1) in
    none_some _ (c.in_err-ok.ensures.value ∙ ap result_ok (c.read_shape.ensures.value ∙ shape_again _ f w rest))

pub returns : goal.returns
returns c f w e =
    let first = both_some _ _ _ _ (c.in_ok-id.ensures f.id (behind_id f) w.id (at_id _ f w e)) in
    let second = both_some _ _ _ _ (c.in_ok-version.ensures f.version (behind_version f) w.version (at_version _ f w first.1)) in
    let third = both_some _ _ _ _ (c.in_ok-office.ensures ∙ at_office _ f w second.1) in
    let fourth = both_some _ _ _ _ (c.in_ok-class.ensures ∙ at_class _ f w third.1) in
    let rest = behind_one _ _ _ _ (sym c.in_ok-shape.ensures.cases.0 ∙ fourth.1) in
    let office = one_some _ _ (c.in_ok-new.ensures ∙ (ap name_of third.0 ∙ name_again f.office w.office)) in
    let class = one_some _ _ (c.in_ok-new-2.ensures ∙ (ap name_of fourth.0 ∙ name_again f.class w.class)) in
    let shape = one_some _ _ (c.in_ok-ok.ensures.value ∙ ap result_ok (c.read_shape.ensures.value ∙ shape_again _ f w rest)) in
    same_feature f _ _ _ _ _ first.0 second.0 office class shape
