pub mod LookupLaws
mod PlaceLaws
