pub mod FollowerView
pub mod NoticesView
