pub mod UnitHeld
