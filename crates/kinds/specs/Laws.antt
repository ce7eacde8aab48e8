-- Laws of kinds: which byte names one, and where a record of it may stand.
use Rattle.std.specs.Prelude.{ℕ, zero, suc, not, ◌≡◌, refl}
use Rattle.std.proofs.Common.{ap}
use Rattle.program.specs.Records as program
use Rattle.stages.specs.declared.Stage.{Stage}
use Rattle.stages.specs.declared.Stage.TheVariants.{Start, Gridded, Loaded}
use Rattle.stages.specs.Buffers.{Buffers, empty}
use Rattle.stages.specs.Stage.{plain_state}

-- ---- a byte other than 1 to 9 names no kind
pub no_kind :
    (byte : ℕ) → (byte ≡ 1 → ⊥) → (byte ≡ 2 → ⊥) → (byte ≡ 3 → ⊥) → (byte ≡ 4 → ⊥) → (byte ≡ 5 → ⊥) → (byte ≡ 6 → ⊥) → (byte ≡ 7 → ⊥) →
    (byte ≡ 8 → ⊥) → (byte ≡ 9 → ⊥) → program.kind_of byte ≡ program.unknown
no_kind zero n1 n2 n3 n4 n5 n6 n7 n8 n9 = refl
no_kind (suc zero) n1 n2 n3 n4 n5 n6 n7 n8 n9 = absurd (n1 refl)
no_kind (suc (suc zero)) n1 n2 n3 n4 n5 n6 n7 n8 n9 = absurd (n2 refl)
no_kind (suc (suc (suc zero))) n1 n2 n3 n4 n5 n6 n7 n8 n9 = absurd (n3 refl)
no_kind (suc (suc (suc (suc zero)))) n1 n2 n3 n4 n5 n6 n7 n8 n9 = absurd (n4 refl)
no_kind (suc (suc (suc (suc (suc zero))))) n1 n2 n3 n4 n5 n6 n7 n8 n9 = absurd (n5 refl)
no_kind (suc (suc (suc (suc (suc (suc zero)))))) n1 n2 n3 n4 n5 n6 n7 n8 n9 = absurd (n6 refl)
no_kind (suc (suc (suc (suc (suc (suc (suc zero))))))) n1 n2 n3 n4 n5 n6 n7 n8 n9 = absurd (n7 refl)
no_kind (suc (suc (suc (suc (suc (suc (suc (suc zero)))))))) n1 n2 n3 n4 n5 n6 n7 n8 n9 = absurd (n8 refl)
no_kind (suc (suc (suc (suc (suc (suc (suc (suc (suc zero))))))))) n1 n2 n3 n4 n5 n6 n7 n8 n9 = absurd (n9 refl)
no_kind (suc (suc (suc (suc (suc (suc (suc (suc (suc (suc n)))))))))) n1 n2 n3 n4 n5 n6 n7 n8 n9 = refl

-- ---- what a stage says of kinds and lengths, whatever the buffers hold
module _ (r : Stage) (b : Buffers) where
  start_any : program.is_start (plain_state r b) ≡ program.is_start (plain_state r empty)
  start_any = go r
    where
      go : (r : Stage) → program.is_start (plain_state r b) ≡ program.is_start (plain_state r empty)
      go Start = refl
      go (Gridded g) = refl
      go (Loaded g) = refl

  loaded_any : program.is_loaded (plain_state r b) ≡ program.is_loaded (plain_state r empty)
  loaded_any = go r
    where
      go : (r : Stage) → program.is_loaded (plain_state r b) ≡ program.is_loaded (plain_state r empty)
      go Start = refl
      go (Gridded g) = refl
      go (Loaded g) = refl

  pub place_any : (k : program.Kind) → program.in_place (plain_state r b) k ≡ program.in_place (plain_state r empty) k
  place_any program.unknown = refl
  place_any program.grid_kind = start_any
  place_any program.load_kind = ap not start_any
  place_any program.emission_kind = loaded_any
  place_any program.withdrawal_kind = loaded_any
  place_any program.zonal_kind = loaded_any
  place_any program.meridional_kind = loaded_any
  place_any program.remap_kind = loaded_any
  place_any program.total_kind = loaded_any
  place_any program.cell_kind = loaded_any
