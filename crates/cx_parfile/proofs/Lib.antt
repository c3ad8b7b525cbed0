pub mod ByteLaws
pub mod NumberLaws
pub mod NameLaws
pub mod ParLaws
pub mod SteerLaws
pub mod FitLaws
pub mod PrintLaws
pub mod TextLaws
