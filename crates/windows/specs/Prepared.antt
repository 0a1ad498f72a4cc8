-- A window's shape gives back what is kept of it.
use Rattle.std.specs.Prelude.{◌≡◌}
use Rattle.std.proofs.Common.{sym}
use Rattle.plane.specs.Extents.{extent_of}
use Rattle.windows.specs.Rectangles.{IsPrepared, is_upright}
use Rattle.windows.specs.declared.window.Window.TheInside.{Inside}

pub prepared_back : (w : Inside) → IsPrepared w.shape w.frame w.upright
    → record { shape = w.shape; frame = extent_of w.shape; upright = is_upright w.shape } ≡ w
prepared_back w kept = λ i. record {
  shape = w.shape;
  frame = sym kept.framed i;
  upright = sym kept.told i;
}
