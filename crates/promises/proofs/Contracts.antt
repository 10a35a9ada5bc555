-- By computation. Assumes nothing.
use mathlib.Core.Path.{refl}
use seplogic.Ra.Ura.{Ura}
use base.Logic.{SProp}
use prog.Memory.{Memory}
use prog.Routine.{Routine}
use types.Logic.{Logic}
use contract.BorrowLft.{⊑_static}
use contract.Monad.{Fun}
use Rattle.promises.specs.Contracts.{AsksNothing, Numbers, AnyWidth, Tables, Complexes, Transforms, Rho, Tau, Hosts, Bytes, Records, Lists}

pub asks_nothing : AsksNothing
asks_nothing κs = ((⊑_static κs.0, (⊑_static κs.1.0, tt)), (⊑_static κs.0, (⊑_static κs.1.0, tt)))

module _ {M : Type 1} {𝓤 : Ura M} (𝓛 : Logic 𝓤) (mem : Memory → SProp 𝓤) (run : Routine → Fun 𝓤) where
  pub numbers : Numbers 𝓛 mem run
  numbers = (refl, refl, refl, refl, refl, refl, refl, refl, refl, refl, refl, refl, refl, refl, refl, refl, refl, refl, refl, refl, refl, refl, refl, refl, refl, refl, refl, refl, refl)

  pub any_width : AnyWidth 𝓛 mem run
  any_width F B width d copy e = (refl, refl, refl, refl, refl)

  pub tables : Tables 𝓛 mem run
  tables = (refl, refl, refl, refl)

  pub complexes : Complexes 𝓛 mem run
  complexes = (refl, refl, refl, refl, refl, refl, refl, refl, refl, refl)

  pub transforms : Transforms 𝓛 mem run
  transforms = (refl, refl, refl, refl, refl, refl, refl)

  pub rho : Rho 𝓛 mem run
  rho = (refl, refl, refl, refl)

  pub tau : Tau 𝓛 mem run
  tau = (refl, refl, refl, refl)

  pub hosts : Hosts 𝓛 mem run
  hosts = (refl, refl, refl, refl, refl, refl, refl, refl, refl, refl, refl, refl, refl, refl, refl, refl, refl, refl)

  pub bytes : Bytes 𝓛 mem run
  bytes = (refl, refl, refl, refl, refl, refl, refl)

  pub records : Records 𝓛 mem run
  records = (refl, refl, refl, refl, refl)

  pub lists : Lists 𝓛 mem run
  lists = (refl, refl)
