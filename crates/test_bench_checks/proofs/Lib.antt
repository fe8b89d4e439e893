pub mod BenchChecks
