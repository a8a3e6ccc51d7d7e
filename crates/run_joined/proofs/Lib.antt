mod Meetings
