pub mod SamplesAtSettings
