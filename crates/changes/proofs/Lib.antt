pub mod PlaceLaws
pub mod Growing
pub mod CallLaws
pub mod UndoLaws
pub mod Moving
pub mod AtTheEnd
pub mod InPlace
