-- What base64 spells.
use Rattle.std.proofs.Common.{◌≡◌, ℕ, List, Option, None, Some, Ok, Err, ap}
use Rattle.std.specs.Result.{result_ok}
use Rattle.base64.specs.Engines.{standard}
use Rattle.base64.specs.GeneralPurpose.{decode_of, decoded_of}
use Rattle.base64.specs.declared.decode.DecodeError.{DecodeError}

pub decoded : (token bytes : List ℕ) → decode_of standard token ≡ Ok bytes → decoded_of standard token ≡ Some bytes
unfolding decoded_of
decoded token bytes is = ap result_ok is

pub undecoded : (token : List ℕ) (fault : DecodeError) → decode_of standard token ≡ Err fault → decoded_of standard token ≡ None
unfolding decoded_of
undecoded token fault is = ap result_ok is
