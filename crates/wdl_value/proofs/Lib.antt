pub mod ValueTextLemmas
pub mod ValueLayers
pub mod SameTypeLemmas
pub mod SameValueLemmas
pub mod FitsLemmas
pub mod CastTakes
pub mod CastParts
pub mod FitsForms
