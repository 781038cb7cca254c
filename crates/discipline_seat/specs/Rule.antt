pub mod SeatLog
pub mod Story
pub mod SeatView
pub mod SeatRule
pub mod SeatStep
