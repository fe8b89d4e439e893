pub mod RackedRuns
