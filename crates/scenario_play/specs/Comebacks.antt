-- What a break leaves to a player.
use Rattle.std.specs.Prelude.{◌≡◌}
use Rattle.scenario_play.specs.Scenes.{Scene}

-- the tickets, the pool and the encoder
pub record Holding (s t : Scene) : Type 0 where
  pub tickets : t.tickets ≡ s.tickets
  pub pool : t.pool ≡ s.pool
  pub encoder : t.encoder ≡ s.encoder
  pub room : t.room ≡ s.room
