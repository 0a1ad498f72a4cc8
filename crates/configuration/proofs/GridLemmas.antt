-- Grids of an origin and decimals.
use Rattle.std.proofs.Common.{◌≡◌, ◌<◌, ◌≤◌, ℕ, ℤ, true, false, List, Result, Ok, Err, Option, Some, nat_le, refl, arith}
use Rattle.grid.specs.Grids.{IsGridOf, first_of_two, grid_fault, origin_of}
use Rattle.grid.specs.declared.faults.GridFault.{GridFault}
use Rattle.grid.specs.declared.grids.Axis.TheVariants.{X, Y}
use Rattle.grid.specs.declared.grids.Between.{Between}
use Rattle.grid.specs.declared.grids.Grid.{Grid}
use Rattle.grid.specs.declared.grids.TheConstants.{MOST_DECIMALS}
use Rattle.features.specs.declared.actors.Subject.{Subject}
use Rattle.policy_documents.specs.Documents.{DocumentData}
use Rattle.serde_json.specs.Data.{Data, Items}
use Rattle.configuration.specs.Configs.{GridData, config_from, grid_at, grid_data, grid_from, grid_member, grid_path, of_form, of_steps, policies_in, subjects_in, taken_over, value_of}
use Rattle.configuration.specs.declared.config_faults.ConfigFault.TheVariants as faults
use Rattle.configuration.specs.declared.paths.ConfigPath.{ConfigPath}
use Rattle.configuration.specs.declared.paths.MemberName.TheVariants as member_names

at_most : (n m : ℕ) → n ≤ m → nat_le n m ≡ true
at_most n m fits = grind arith

beyond : (n m : ℕ) → m < n → nat_le n m ≡ false
beyond n m more = grind arith

abbrev made : ℕ → Between → Result ℤ GridFault → Result ℤ GridFault → Result GridData ConfigPath
made decimals between x y = grid_at decimals between (of_steps x) (of_steps y)

-- the grid that was made
pub from_new : (x y : List ℕ) (decimals : ℕ) (between : Between) (grid : Grid) → IsGridOf x y decimals between grid → grid_from x y decimals between ≡ Ok (grid_data grid)
unfolding grid_from
from_new x y decimals between grid h = rw (at_most decimals MOST_DECIMALS h.few, h.x_is, h.y_is, h.decimals_is, h.between_is) refl

-- no grid was made
fails : (decimals : ℕ) (between : Between) (x y : Result ℤ GridFault) (fault : GridFault) → first_of_two x y ≡ Some fault → made decimals between x y ≡ Err grid_path
fails decimals between (Err e) y fault h = refl
fails decimals between (Ok x) (Err e) fault h = refl
fails decimals between (Ok x) (Ok y) fault h = absurd cc

pub from_fault : (x y : List ℕ) (decimals : ℕ) (between : Between) (fault : GridFault) → decimals ≤ MOST_DECIMALS → grid_fault x y decimals ≡ Some fault → grid_from x y decimals between ≡ Err grid_path
unfolding grid_from
from_fault x y decimals between fault fits h =
    let few = at_most decimals MOST_DECIMALS fits in
    let first : first_of_two (origin_of X decimals x) (origin_of Y decimals y) ≡ Some fault = rw few at h in
    rw few (fails decimals between (origin_of X decimals x) (origin_of Y decimals y) fault first)

-- too many decimals
pub too_many : (x y : List ℕ) (decimals : ℕ) (between : Between) → MOST_DECIMALS < decimals → grid_from x y decimals between ≡ Err grid_path
unfolding grid_from
too_many x y decimals between more = rw (beyond decimals MOST_DECIMALS more) refl

-- a fault of the grid, behind all that was read before it
pub grid-fails : (items : Items) (policies d : Data) (grid : Option Data) (given subjects : List Subject) (document : DocumentData) (path : ConfigPath) → of_form (subjects_in items) ≡ Ok given → taken_over given ≡ Ok subjects → policies_in policies ≡ Ok document →
    grid ≡ value_of member_names.Grid d → grid_member grid ≡ Err path → config_from items policies d ≡ Err (faults.Form path)
unfolding config_from
grid-fails items policies d grid given subjects document path each taken read under h = rw (each, taken, read, ← under, h) refl
